-- Composition, and the choices that two related acts make alike.
use Rattle.std.proofs.Common.{◌≡◌, ℕ, inl, inr, Bool, true, false, cond, ◌==◌, arith, refl, subst}
use Rattle.std.proofs.lemmas.Bool.Decides.{nat_tests}
use Rattle.std.proofs.lemmas.Bool.{cases_eq}
use Rattle.js_value.specs.Value.{Value}
use Rattle.es_ops.specs.Events.{Reply, Answer}
use Rattle.es_ops.specs.Act.{Act, Give, Throw, Halt, Turn, Ask, Do, Call, Try, ◌>>=◌, completed, by_completion, Completion}
use Rattle.es_ops.specs.Related.{Naming, BothOption, BothList, BothValue, BothQuestion, BothReply, BothDeed, BothAnswer, BothCompletion, BothNormal, BothThrow, Related, BothGive, BothThrown, BothHalt, BothTurn, BothAsk, BothDo, BothCall, BothTry, Then, IsOneToOne}

pub bind_related : {R : Naming} {a b : Act} (f g : Value → Act) → Related R a b → Then R (BothValue R) f g → Related R (a >>= f) (b >>= g)
bind_related f g (BothGive v) h = h _ _ v
bind_related f g (BothThrown v) h = BothThrown v
bind_related f g BothHalt h = BothHalt
bind_related f g (BothTurn p) h = BothTurn (bind_related f g p h)
bind_related f g (BothAsk q k) h = BothAsk q (λ r s e. bind_related f g (k r s e) h)
bind_related f g (BothDo d k) h = BothDo d (λ r s e. bind_related f g (k r s e) h)
bind_related f g (BothCall c t vs x k) h = BothCall c t vs x (λ v w e. bind_related f g (k v w e) h)
bind_related f g (BothTry c t vs x k) h = BothTry c t vs x (λ v w e. bind_related f g (k v w e) h)

pub completed_related : {R : Naming} {a b : Act} (f g : Completion → Act) → Related R a b → Then R (BothCompletion R) f g → Related R (completed a f) (completed b g)
completed_related f g (BothGive v) h = h _ _ (BothNormal v)
completed_related f g (BothThrown v) h = h _ _ (BothThrow v)
completed_related f g BothHalt h = BothHalt
completed_related f g (BothTurn p) h = BothTurn (completed_related f g p h)
completed_related f g (BothAsk q k) h = BothAsk q (λ r s e. completed_related f g (k r s e) h)
completed_related f g (BothDo d k) h = BothDo d (λ r s e. completed_related f g (k r s e) h)
completed_related {R} f g (BothCall {k = k} {l = l} c t vs x m) h = BothTry c t vs x (λ v w e. either v w e (λ v w e. completed_related f g (m v w e) h))
  where
    either : (c d : Completion) → BothCompletion R c d → ((v w : Value) → BothValue R v w → Related R (completed (k v) f) (completed (l w) g)) → Related R (by_completion (λ v. completed (k v) f) f c) (by_completion (λ v. completed (l v) g) g d)
    either c d (BothNormal e) next = next _ _ e
    either c d (BothThrow e) next = h _ _ (BothThrow e)
completed_related f g (BothTry c t vs x k) h = BothTry c t vs x (λ v w e. completed_related f g (k v w e) h)

pub cond_related : {R : Naming} (b : Bool) (p q r s : Act) → Related R p r → Related R q s → Related R (cond b p q) (cond b r s)
cond_related true p q r s h g = h
cond_related false p q r s h g = g

-- numbers of things compare alike
test_same : (a b c d : ℕ) → (a ≡ c → b ≡ d) → (b ≡ d → a ≡ c) → (a == c) ≡ (b == d)
test_same a b c d f g = elim (cases_eq a c) [
  | inl e ↦ let h = f e in grind (arith, nat_tests)
  | inr n ↦ let h : b ≡ d → ⊥ = λ e. n (g e) in grind (arith, nat_tests)
]

pub same_number : {R : Naming} → IsOneToOne R → (a b c d : ℕ) → R a b → R c d → (a == c) ≡ (b == d)
same_number {R} o a b c d r s = test_same a b c d (λ e. o.forth c b d (subst (λ x. R x b) e r) s) (λ e. o.back a c d (subst (λ x. R a x) e r) s)

-- what is held by two acts that are related
abbrev pub Shape : Naming → Act → Act → Type 0
Shape R (Give v) (Give w) = BothValue R v w
Shape R (Throw v) (Throw w) = BothValue R v w
Shape R (Halt stop) (Halt other) = stop ≡ other
Shape R (Turn a) (Turn b) = Related R a b
Shape R (Ask q k) (Ask p l) = BothQuestion R q p × ((r : Reply q) (s : Reply p) → BothReply R q p r s → Related R (k r) (l s))
Shape R (Do d k) (Do e l) = BothDeed R d e × ((a : Answer d) (b : Answer e) → BothAnswer R d e a b → Related R (k a) (l b))
Shape R (Call f t vs x k) (Call g u ws y l) = BothValue R f g × BothValue R t u × BothList (BothValue R) vs ws × BothOption (BothValue R) x y × Then R (BothValue R) k l
Shape R (Try f t vs x k) (Try g u ws y l) = BothValue R f g × BothValue R t u × BothList (BothValue R) vs ws × BothOption (BothValue R) x y × Then R (BothCompletion R) k l
Shape R _ _ = ⊥

pub shape_of : {R : Naming} {a b : Act} → Related R a b → Shape R a b
shape_of (BothGive h) = h
shape_of (BothThrown h) = h
shape_of BothHalt = refl
shape_of (BothTurn h) = h
shape_of (BothAsk q k) = (q, k)
shape_of (BothDo d k) = (d, k)
shape_of (BothCall f t vs x k) = (f, t, vs, x, k)
shape_of (BothTry f t vs x k) = (f, t, vs, x, k)
