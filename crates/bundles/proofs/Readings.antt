-- Readings that succeed, and the faults of lines.
use Rattle.std.proofs.Common.{◌≡◌, Bool, true, false, ◌==◌, List, [], ◌∷◌, length, Option, Some}
use Rattle.std.proofs.Common.{None, Result, Ok, Err, refl, sym, ◌∙◌}
use Rattle.std.proofs.Math.Dec.{eqb-suc-zero}
use Rattle.texts.specs.Reading.{◌>>=◌, some_or, value_if}
use Rattle.bundles.specs.declared.fault.BundleFault.{BundleFault}
use Rattle.bundles.specs.declared.flaw.Flaw.{Flaw}
use Rattle.bundles.specs.Bundles.{Line}
use Rattle.bundles.specs.Flaws.{told}

-- ---- what a reading that succeeds has read

pub bind_ok : {F A B : Type 0} (r : Result A F) (f : A → Result B F) (y : B) → (r >>= f) ≡ Ok y
    → (x : A) × (r ≡ Ok x) × (f x ≡ Ok y)
bind_ok (Ok x) f y e = (x, refl, e)
bind_ok (Err d) f y e = absurd cc

pub some_ok : {F A : Type 0} (d : F) (o : Option A) (x : A) → some_or d o ≡ Ok x → o ≡ Some x
some_ok d None x e = absurd cc
some_ok d (Some y) x e = cc

pub if_ok : {F A : Type 0} (d : F) (b : Bool) (x y : A) → value_if d b x ≡ Ok y
    → (b ≡ true) × (x ≡ y)
if_ok d true x y e = (refl, cc)
if_ok d false x y e = absurd cc

abbrev pub done_ok : {A F : Type 0} → A → Result A F
done_ok x = Ok x

pub ok_is : {A F : Type 0} (x y : A) → done_ok {F = F} x ≡ done_ok y → x ≡ y
ok_is x y e = cc

pub none_left : (words : List Line) → (length words == 0) ≡ true → words ≡ []
none_left [] e = refl
none_left (word ∷ words) e =
    let some : (length (word ∷ words) == 0) ≡ false = eqb-suc-zero (length words) in
    let wrong : true ≡ false = sym e ∙ some in
    absurd (cc)

-- ---- what a line with a number gives

pub told_ok : {A : Type 0} (fault : Flaw → BundleFault) (r : Result A Flaw) (x : A)
    → told fault r ≡ Ok x → r ≡ Ok x
told_ok fault (Ok y) x e = cc
told_ok fault (Err flaw) x e = absurd cc

pub told_err : {A : Type 0} (fault : Flaw → BundleFault) (r : Result A Flaw) (bad : BundleFault)
    → told fault r ≡ Err bad → (flaw : Flaw) × (bad ≡ fault flaw)
told_err fault (Ok y) bad e = absurd cc
told_err fault (Err flaw) bad e = (flaw, cc)
