-- How contracts see what an instruction sends.
use Rattle.seq_program.specs.declared.request.Content.{Content as CodeContent}
use Rattle.seq_program.specs.declared.request.Content.TheVariants as code
use Rattle.seq_program.specs.declared.request.Transaction.{Transaction as CodeTransaction}
use Rattle.seq_program.specs.declared.request.Request.{Request as CodeRequest}
use Rattle.seq_program.specs.Requests.{Content, Transaction, Request, Nothing, Value, Block}
use Rattle.seq_program.specs.Requests.{transaction, request}

abbrev pub content_view : CodeContent → Content
content_view code.Nothing = Nothing
content_view (code.Value value) = Value value
content_view (code.Block block) = Block block.now

abbrev pub transaction_view : CodeTransaction → Transaction
transaction_view x = transaction x.form x.command (content_view x.content) x.register

abbrev pub request_view : CodeRequest → Request
request_view r = request r.target (transaction_view r.transaction) r.otherwise
