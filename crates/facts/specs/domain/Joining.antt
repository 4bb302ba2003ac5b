-- Lists of parts that are joined part by part.
use Rattle.std.specs.Prelude.{List, [], ◌∷◌}

-- the first part is the least that covers both others
pub record IsJoin {P : Type 0} (Covers : P → P → Type 0) (r s u : P) : Type 0 where
  pub first : Covers r s
  pub second : Covers r u
  pub least : (w : P) → Covers w s → Covers w u → Covers w r

-- each part of the first list is the join of those at its place in the others
abbrev pub AreJoined : {P : Type 0} → (P → P → Type 0) → List P → List P → List P → Type 0
AreJoined Covers [] [] [] = Unit {0}
AreJoined Covers (r ∷ rs) (s ∷ ss) (u ∷ us) = IsJoin Covers r s u × AreJoined Covers rs ss us
AreJoined Covers rs ss us = ⊥
