use Rattle.std.proofs.Common.{rules}
use Rattle.bundles.proofs.SaidTexts.{is_joined, is_start}
use Rattle.bundles.proofs.answer_text.start_line.Goals as goal

pub returns : goal.returns
returns c =
    let text = is_joined _ c.args.pages.now c.args.protects.now (search rules) in
    record {
      text = text;
      says =
          is_start c.numbers_read_back.ensures.pair _ c.args.pages.now c.args.protects.now
          c.requires.some_page
          c.requires.some_protect c.are_bytes.ensures c.are_bytes-2.ensures text;
    }
