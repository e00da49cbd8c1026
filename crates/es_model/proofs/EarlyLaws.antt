-- `early` gives a failing rule exactly where one fails, and of these the first.
use Rattle.std.proofs.Common.{◌≡◌, Bool, true, false, ◌⊎◌, List, [], ◌∷◌, Some, None, refl, inl, inr, arith}
use Rattle.es_model.specs.declared.faults.EarlyFault.{EarlyFault}
use Rattle.es_model.specs.Tree as t
use Rattle.es_model.specs.Tree.{Tree}
use Rattle.es_model.specs.EarlyRules.{Failure, failures, is_before, least_of, first_of, early}

-- a failure stands in a list
abbrev pub Among : Failure → List Failure → Type 0
Among one [] = ⊥
Among one (other ∷ rest) = (one ≡ other) ⊎ Among one rest

-- none of a list comes before a failure
abbrev pub IsFirst : Failure → List Failure → Type 0
IsFirst one [] = Unit {0}
IsFirst one (other ∷ rest) = (is_before other one ≡ false) × IsFirst one rest

no_failure : (list : List Failure) → first_of list ≡ None → list ≡ []
no_failure [] e = refl
no_failure (one ∷ rest) e = absurd (cc e)

least_among : (one : Failure) (rest : List Failure) → Among (least_of one rest) (one ∷ rest)
least_among one [] = inl refl
least_among one (other ∷ rest) =
    elim (is_before other one) as (λ b. Among (elim b [ true ↦ least_of other rest | false ↦ least_of one rest ]) (one ∷ (other ∷ rest))) [
      | true ↦ inr (least_among other rest)
      | false ↦ elim (least_among one rest) [ inl e ↦ inl e | inr h ↦ inr (inr h) ]
    ]

-- the order of failures
lower : (x y z : Failure) → is_before x y ≡ true → is_before x z ≡ false → is_before y z ≡ false
lower x y z e f = grind arith

upper : (x y z : Failure) → is_before x y ≡ false → is_before y z ≡ false → is_before x z ≡ false
upper x y z e f = grind arith

not_itself : (x : Failure) → is_before x x ≡ false
not_itself x = grind arith

step : (one other : Failure) (rest : List Failure) → IsFirst (least_of other rest) (other ∷ rest) → IsFirst (least_of one rest) (one ∷ rest) → (b : Bool) → is_before other one ≡ b → IsFirst (elim b [ true ↦ least_of other rest | false ↦ least_of one rest ]) (one ∷ (other ∷ rest))
step one other rest h g true e = (lower other one (least_of other rest) e h.0, (h.0, h.1))
step one other rest h g false e = (g.0, (upper other one (least_of one rest) e g.0, g.1))

least_first : (one : Failure) (rest : List Failure) → IsFirst (least_of one rest) (one ∷ rest)
least_first one [] = (not_itself one, tt)
least_first one (other ∷ rest) = step one other rest (least_first other rest) (least_first one rest) (is_before other one) refl

pub none_fails : (items : Tree (t.list t.item)) → early items ≡ None → failures items ≡ []
none_fails items e = no_failure (failures items) e

pub one_fails : (items : Tree (t.list t.item)) (fault : EarlyFault) → early items ≡ Some fault → (one : Failure) × Among one (failures items) × IsFirst one (failures items) × (one.fault ≡ fault)
one_fails items fault e = among (failures items) e
  where
    among : (list : List Failure) → first_of list ≡ Some fault → (one : Failure) × Among one list × IsFirst one list × (one.fault ≡ fault)
    among [] e = absurd (cc e)
    among (one ∷ rest) e = (least_of one rest, least_among one rest, least_first one rest, some_is e)
      where
        some_is : {a b : EarlyFault} → Some a ≡ Some b → a ≡ b
        some_is e = cc e
