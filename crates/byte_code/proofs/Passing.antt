-- The pass at its beginning.
use Rattle.std.proofs.Common.{◌≡◌, ◌≤◌, ℕ, zero, suc, List, length, Bool, true, false, not, Option, Some, None, is_some, replicate, refl, subst, arith}
use Rattle.std.specs.Bool.{OnFalse}
use Rattle.byte_code.proofs.Refusing.{no_end}
use Rattle.byte_code.specs.ValidCode.{Bounds, First, IsValid}
use Rattle.byte_code.specs.Checking.{known, Began, Pass}

pub begins : (code : List ℕ) (b : Bounds) (heights : List (Option ℕ)) → length code ≤ length heights → ((q : ℕ) → known heights q ≡ None) → Pass code b heights 0 (Some 0)
begins code b heights room fresh = record {
  start = First;
  size = room;
  ways = λ q g e. let none : known heights q ≡ None = fresh q in cc;
  room = λ q g e. let none : known heights q ≡ None = fresh q in cc;
  inside = λ q g e. let none : known heights q ≡ None = fresh q in cc;
  starts = λ q g e h. let none : known heights q ≡ None = fresh q in cc;
  ahead = λ q g e h. let none : known heights q ≡ None = fresh q in cc;
  came = Began refl refl;
  each = λ p op s h. absurd (omega arith);
}

-- at the end of valid code the last instruction doesn't go on
pub ends : (code : List ℕ) (b : Bounds) (heights : List (Option ℕ)) (at : ℕ) (before : Option ℕ) (none : Bool) → at ≡ length code → Pass code b heights at before → is_some before ≡ not none → OnFalse none (IsValid code b → ⊥)
ends code b heights at None true z pass e = tt
ends code b heights at None false z pass e = cc
ends code b heights at (Some h) true z pass e = tt
ends code b heights at (Some h) false z pass e = no_end code b heights h (subst (λ x. Pass code b heights x (Some h)) z pass)

-- nothing is known of fresh heights
pub fresh : (n q : ℕ) → known (replicate n None) q ≡ None
fresh zero q = refl
fresh (suc n) zero = refl
fresh (suc n) (suc q) = fresh n q
