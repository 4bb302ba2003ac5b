-- Lints that are told one after another.
use Rattle.std.proofs.Common.{◌≡◌, ◌<◌, ℕ, get_or, false, inl, inr, All, ◌++◌, ◌∷◌, ◌∙◌, ◌↔◌, []}
use Rattle.std.proofs.Common.{List, length, sym, ap, arith}
use Rattle.std.specs.Prelude.{flat_map, IsTrue}
use Rattle.std.specs.List.{enumerate_from}
use Rattle.std.proofs.lemmas.List.{append_assoc, append-nil, append_cancel_left, length_push}
use Rattle.std.proofs.lemmas.Bool.{cases_Bool}
use Rattle.std.proofs.lemmas.List.Elements.{All-push, All-weaker}
use Rattle.std.proofs.lemmas.List.Quantifiers.{all_pairs_push}
use Rattle.smbus.specs.Asked.{Asked}
use Rattle.board.specs.Boards.{Board}
use Rattle.seq_program.specs.declared.instr.Instr.{Instr}
use Rattle.board_lints.specs.declared.lint.Lint.{Lint}
use Rattle.board_lints.specs.Reasons.{sent_by, AllCanComeGood}
use Rattle.board_lints.specs.Lints.{Lints, target_lints, unready_targets, idle_rails}
use Rattle.board_lints.specs.Lints.{loose_limits, foreign_lints, IsCircle, TellsCircles}
use Rattle.board_lints.specs.Lints.{AreLints}
use Rattle.board_lints.specs.Lints.{rails_of, AreApart}
use Rattle.board_lints.specs.OneCircle.{TellsCircle}
use Rattle.board_lints.specs.Ready.{is_ready, AreAmong}

-- circles that were told so far, whose rails are ready
pub record ToldSoFar (b : Board) (first lints : Lints) (ready : List ℕ) : Type 0 where
  pub tells : TellsCircles b first lints
  pub among : All (λ c. AreAmong (rails_of c) ready) tells.circles

none_below : (k : ℕ) → k < 0 → ⊥
none_below k lt = omega (arith, lt)

pub none_told : (b : Board) (first : Lints) (ready : List ℕ) → ToldSoFar b first first ready
none_told b first ready = record {
  tells = record {
    circles = [];
    told = sym (append-nil first);
    each = λ k d lt. absurd (none_below k lt);
    apart = λ i j d before lt. absurd (none_below j lt);
  };
  among = λ k d lt. absurd (none_below k lt);
}

apart_from : (ready : List ℕ) (c circle : Lint) → AreAmong (rails_of c) ready
    → ((d : ℕ) → IsTrue (is_ready (rails_of circle) d) → is_ready ready d ≡ false)
    → AreApart c circle
apart_from ready c circle among new d t = elim (cases_Bool (is_ready (rails_of circle) d)) [
  | inl both ↦ absurd (cc (among d t, new d both))
  | inr not ↦ not
]

pub one_circle_more : (b : Board) (first before after : Lints) (ready more : List ℕ)
    → ToldSoFar b first before ready → TellsCircle b ready more before after
    → ToldSoFar b first after more
one_circle_more b first before after ready more so_far one =
    let circles = so_far.tells.circles in record {
      tells = record {
        circles = circles ++ one.circle ∷ [];
        told =
            one.told ∙ ap (λ lints. lints ++ one.circle ∷ []) so_far.tells.told
            ∙ append_assoc first circles (one.circle ∷ []);
        each = All-push (IsCircle b) circles one.circle so_far.tells.each one.is;
        apart =
            all_pairs_push AreApart circles one.circle so_far.tells.apart
            (λ k d lt.
            apart_from ready (get_or circles k d) one.circle (so_far.among k d lt) one.new);
      };
      among =
          All-push (λ c. AreAmong (rails_of c) more) circles one.circle
          (All-weaker (λ c. AreAmong (rails_of c) ready) (λ c. AreAmong (rails_of c) more)
          (λ c among d t. one.kept d (among d t)) circles so_far.among) one.has;
    }

pub longer : (first before after : Lints) (lint : Lint) → length first < length before
    → after ≡ before ++ lint ∷ [] → length first < length after
longer first before after lint lt more =
    omega (arith, lt, ap (λ lints. length lints) more, length_push before lint)

pub first_longer : (first after : Lints) (lint : Lint) → after ≡ first ++ lint ∷ []
    → length first < length after
first_longer first after lint more =
    omega (arith, ap (λ lints. length lints) more, length_push first lint)

pub all_lints : (b : Board) (p : List Instr) (ms : List Asked)
    (none targets circles idle loose all : Lints) → ms ≡ sent_by b p → none ≡ []
    → targets ≡ none ++ flat_map (target_lints ms) (enumerate_from 0 b.targets)
    → TellsCircles b targets circles → (circles ≡ targets) ↔ AllCanComeGood b
    → idle ≡ circles ++ idle_rails b → loose ≡ idle ++ loose_limits b
    → all ≡ loose ++ foreign_lints b → AreLints b p all
all_lints b p ms none targets circles idle loose all sent empty unready tells good idles looses
    foreign =
    let first : targets ≡ unready_targets b p =
    unready
    ∙ ap (λ lints. lints ++ flat_map (target_lints ms) (enumerate_from 0 b.targets)) empty
    ∙ ap (λ some. flat_map (target_lints some) (enumerate_from 0 b.targets)) sent in
    record {
      circles = tells.circles;
      told =
          foreign ∙ ap (λ lints. lints ++ foreign_lints b) looses
          ∙ ap (λ lints. (lints ++ loose_limits b) ++ foreign_lints b) idles
          ∙ ap (λ lints. ((lints ++ idle_rails b) ++ loose_limits b) ++ foreign_lints b)
          tells.told
          ∙ ap (λ lints. lints ++ tells.circles ++ idle_rails b ++ loose_limits b
          ++ foreign_lints b) first;
      each = tells.each;
      apart = tells.apart;
      some = (
        λ same. good.0 (tells.told ∙ ap (λ lints. targets ++ lints) same ∙ append-nil targets),
        λ each. append_cancel_left targets tells.circles []
            (sym tells.told ∙ good.1 each ∙ sym (append-nil targets)),
      );
    }
