-- The edges of a message.
use Rattle.std.proofs.Common.{◌≡◌, ◌∙◌, ◌+◌, ℕ, [], ◌∷◌, ap, refl}
use Rattle.board.specs.Boards.{Board}
use Rattle.seq_program.specs.Requests.{Transaction, Request}
use Rattle.facts.specs.domain.Rows.{Row}
use Rattle.facts.specs.transfer.Edges.{Effect, SetsPage, SetsProtect, TurnsOff, ReadsStatus}
use Rattle.facts.specs.transfer.Edges.{ReadsPage}
use Rattle.facts.specs.transfer.Edges.{ReadsProtect, Loads, Nothing, edge, done_row, else_row}
use Rattle.facts.specs.transfer.Edges.{effect_of, loaded, sent_edges}
use Rattle.facts.specs.transfer.Effects.{done_with}

done_is : (b : Board) (row : Row) (i : ℕ) (x : Transaction) (e : Effect)
    → done_with b row i (loaded b i x) e ≡ done_row b row i x e
done_is b row i x (SetsPage value) = refl
done_is b row i x (SetsProtect value) = refl
done_is b row i x TurnsOff = refl
done_is b row i x (ReadsStatus register) = refl
done_is b row i x (ReadsPage register) = refl
done_is b row i x (ReadsProtect register) = refl
done_is b row i x (Loads register) = refl
done_is b row i x Nothing = refl

-- from the rows that the code makes
pub sent_are : (b : Board) (place : ℕ) (r : Request) (row done left : Row) (e : Effect)
    → e ≡ effect_of r.transaction
    → done ≡ done_with b row r.target (loaded b r.target r.transaction) e
    → left ≡ else_row b row r.target e
    → edge (place + 1) done ∷ edge r.otherwise left ∷ [] ≡ sent_edges b place r row
sent_are b place r row done left e effect is_done is_left =
    ap (λ (x : Row). edge (place + 1) x ∷ edge r.otherwise left ∷ [])
    (is_done ∙ done_is b row r.target r.transaction e
    ∙ ap (done_row b row r.target r.transaction) effect)
    ∙ ap (λ (x : Row). edge (place + 1)
    (done_row b row r.target r.transaction (effect_of r.transaction)) ∷ edge r.otherwise x ∷ [])
    (is_left ∙ ap (else_row b row r.target) effect)
