-- Things keep their shape while what they speak of keeps its kind; so an edit of one thing leaves a sound heap where it leaves
-- that thing in shape and the store well-formed.
use Rattle.std.proofs.Common.{◌≡◌, ◌≢◌, ◌⊎◌, ℕ, suc, zero, Bool, List, [], ◌∷◌, get_or, ap, sym, ◌∙◌, subst, inl, inr}
use Rattle.std.specs.List.{All}
use Rattle.std.specs.Prelude.{IsTrue}
use Rattle.std.proofs.lemmas.Bool.{cases_eq}
use Rattle.std.proofs.lemmas.List.Elements.{All-weaker}
use Rattle.slot_heap.specs.declared.slot.Slot.{Slot}
use Rattle.slot_heap.specs.declared.slot.Job.{Job}
use Rattle.slot_heap.specs.declared.slot.Value.{Value}
use Rattle.slot_heap.specs.declared.slot.Value.TheVariants.{Undefined, Null, Bool as OfBool, Number, Name, Text, Thing}
use Rattle.slot_heap.specs.Slot.{blank, value_in}
use Rattle.slot_heap.specs.Shown.{Low, is_thing, cells}
use Rattle.slot_heap.specs.Steps.{OthersStay, Made}
use Rattle.slot_heap.specs.Held.{Held}
use Rattle.slot_heap.specs.Reading.{upper, lower}
use Rattle.slot_heap.specs.Flat.{flat}
use Rattle.slot_heap.specs.Standing.{Standing}
use Rattle.slot_heap.specs.Sound.{IsOfKind, OrNone, IsLanguageValue, Refers, IsHandler, IsDataSlot, IsAccessorSlot, IsIndexedSlot, IsCapturedSlot, IsPart, AreReactions, NoReaction, Reaction, AreInternals, OfObject, OfArray, OfScript, OfBuiltin, OfResolving, OfError, OfPromise, IsShaped, AnObject, ACell, AMark, IsReactionJob, IsThenableJob, IsJob, Sound}
use Rattle.js_value.specs.WellFormed.{IsWellFormed}

-- what stands goes on standing, with its kind
abbrev pub KindsStay : Low → Low → Type 0
KindsStay h h' = (kinds : ℕ → Bool) (a : ℕ) → IsOfKind h kinds a → IsOfKind h' kinds a

module _ (h h' : Low) (k : KindsStay h h') where
  or_none : (kinds : ℕ → Bool) (a : ℕ) → OrNone (IsOfKind h kinds) a → OrNone (IsOfKind h' kinds) a
  or_none kinds zero o = tt
  or_none kinds (suc a) o = k kinds (suc a) o

  pub language_stays : (v : Value) → IsLanguageValue h v → IsLanguageValue h' v
  language_stays Undefined s = tt
  language_stays Null s = tt
  language_stays (OfBool b) s = tt
  language_stays (Number n) s = s
  language_stays (Name n) s = tt
  language_stays (Text at count) s = tt
  language_stays (Thing a) s = k _ a.0 s

  refers_stays : (kinds : ℕ → Bool) (v : Value) → Refers h kinds v → Refers h' kinds v
  refers_stays kinds Undefined s = s
  refers_stays kinds Null s = s
  refers_stays kinds (OfBool b) s = s
  refers_stays kinds (Number n) s = s
  refers_stays kinds (Name n) s = s
  refers_stays kinds (Text at count) s = s
  refers_stays kinds (Thing a) s = k kinds a.0 s

  handler_stays : (v : Value) → IsHandler h v → IsHandler h' v
  handler_stays Undefined s = tt
  handler_stays Null s = s
  handler_stays (OfBool b) s = s
  handler_stays (Number n) s = s
  handler_stays (Name n) s = s
  handler_stays (Text at count) s = s
  handler_stays (Thing a) s = k _ a.0 s

  data_stays : (c : Slot) → IsDataSlot h c → IsDataSlot h' c
  data_stays c s = record { kind = s.kind; tag = s.tag; value = language_stays (value_in c) s.value }

  accessor_stays : (c : Slot) → IsAccessorSlot h c → IsAccessorSlot h' c
  accessor_stays c s = record { kind = s.kind; tag = s.tag; getter = or_none _ (lower c) s.getter; setter = or_none _ c.last s.setter }

  string_stays : (c : Slot) → IsDataSlot h c ⊎ IsAccessorSlot h c → IsDataSlot h' c ⊎ IsAccessorSlot h' c
  string_stays c (inl s) = inl (data_stays c s)
  string_stays c (inr s) = inr (accessor_stays c s)

  index_stays : (c : Slot) → IsIndexedSlot h c → IsIndexedSlot h' c
  index_stays c s = record { kind = s.kind; tag = s.tag; value = language_stays (value_in c) s.value }

  captured_stays : (c : Slot) → IsCapturedSlot h c → IsCapturedSlot h' c
  captured_stays c s = record { kind = s.kind; tag = s.tag; cell = refers_stays _ (value_in c) s.cell }

  part_refers : (kinds : ℕ → Bool) (c : Slot) → IsPart (Refers h kinds) c → IsPart (Refers h' kinds) c
  part_refers kinds c s = record { kind = s.kind; tag = s.tag; value = refers_stays kinds (value_in c) s.value }

  part_handler : (c : Slot) → IsPart (IsHandler h) c → IsPart (IsHandler h') c
  part_handler c s = record { kind = s.kind; tag = s.tag; value = handler_stays (value_in c) s.value }

  reactions_stay : (cs : List Slot) → AreReactions h cs → AreReactions h' cs
  reactions_stay _ NoReaction = NoReaction
  reactions_stay _ (Reaction a b c cs p q s rest) = Reaction a b c cs (part_refers _ a p) (part_handler b q) (part_handler c s) (reactions_stay cs rest)

  internals_stay : (kind : ℕ) (cs : List Slot) → AreInternals h kind cs → AreInternals h' kind cs
  internals_stay _ _ OfObject = OfObject
  internals_stay _ _ (OfArray c s) = OfArray c s
  internals_stay _ _ (OfScript c cs s all) = OfScript c cs (record { kind = s.kind; tag = s.tag; home = or_none _ c.last s.home }) (All-weaker (IsCapturedSlot h) (IsCapturedSlot h') captured_stays cs all)
  internals_stay _ _ (OfBuiltin c s e) = OfBuiltin c s e
  internals_stay _ _ (OfResolving c a b s e p q) = OfResolving c a b s e (part_refers _ a p) (part_refers _ b q)
  internals_stay _ _ OfError = OfError
  internals_stay _ _ (OfPromise c cs s rest) = OfPromise c cs (record { kind = s.kind; tag = s.tag; one = s.one; pending = s.pending; value = language_stays (value_in c) s.value }) (reactions_stay cs rest)

  pub shape_stays : (cs : List Slot) → IsShaped h cs → IsShaped h' cs
  shape_stays _ (AnObject head internals indices strings s i xs ns) =
      AnObject head internals indices strings (record { tag = s.tag; prototype = or_none _ (upper head) s.prototype }) (internals_stay head.kind internals i) (All-weaker (IsIndexedSlot h) (IsIndexedSlot h') index_stays indices xs) (All-weaker (λ c. IsDataSlot h c ⊎ IsAccessorSlot h c) (λ c. IsDataSlot h' c ⊎ IsAccessorSlot h' c) string_stays strings ns)
  shape_stays _ (ACell head s) = ACell head (record { kind = s.kind; tag = s.tag; value = language_stays (value_in head) s.value; blank = s.blank })
  shape_stays _ (AMark head s) = AMark head s

  reaction_job : (vs : List Value) → IsReactionJob h vs → IsReactionJob h' vs
  reaction_job [] s = s
  reaction_job (a ∷ []) s = s
  reaction_job (a ∷ b ∷ []) s = s
  reaction_job (a ∷ b ∷ c ∷ []) s = (handler_stays a s.0, refers_stays _ b s.1, language_stays c s.2)
  reaction_job (a ∷ b ∷ c ∷ d ∷ vs) s = s

  thenable_job : (vs : List Value) → IsThenableJob h vs → IsThenableJob h' vs
  thenable_job [] s = s
  thenable_job (a ∷ []) s = s
  thenable_job (a ∷ b ∷ []) s = s
  thenable_job (a ∷ b ∷ c ∷ []) s = (refers_stays _ a s.0, refers_stays _ b s.1, refers_stays _ c s.2)
  thenable_job (a ∷ b ∷ c ∷ d ∷ vs) s = s

  pub job_stays : (j : Job) → IsJob h j → IsJob h' j
  job_stays j (inl s) = inl (s.0, reaction_job j.values s.1)
  job_stays j (inr s) = inr (s.0, thenable_job j.values s.1)

-- ---- an edit of the thing at r

-- the kind of a thing's head
abbrev pub kind_at : Low → ℕ → ℕ
kind_at h a = (get_or (cells h a) 0 blank).kind

pub kinds_edit : (h h' : Low) (r : ℕ) → OthersStay h r h' → kind_at h' r ≡ kind_at h r → KindsStay h h'
kinds_edit h h' r o e kinds a s = record {
  thing = o.heads a ∙ s.thing;
  kind = elim (cases_eq a r) [
    | inl q ↦ let f : kind_at h' a ≡ kind_at h a = subst (λ b. kind_at h' b ≡ kind_at h b) (sym q) e in ap kinds f ∙ s.kind
    | inr d ↦ ap (λ cs. kinds (get_or cs 0 blank).kind) (o.apart a s.thing d).1 ∙ s.kind
  ];
}

pub kinds_made : (h h' : Low) (r : ℕ) (cs : List Slot) → ((q : ℕ) → IsTrue (is_thing h q) → q ≢ r) → Made h r cs h' → KindsStay h h'
kinds_made h h' r cs new m kinds a s = record {
  thing = m.heads a (new a s.thing) ∙ s.thing;
  kind = ap (λ cs. kinds (get_or cs 0 blank).kind) (m.apart a s.thing).1 ∙ s.kind;
}

-- all things but the one at r are as before, and that one is in shape
pub sound_edited : (h h' : Held) (r : ℕ) → Sound h → KindsStay h.slots h'.slots → ((q : ℕ) → IsTrue (is_thing h'.slots q) → q ≢ r → IsTrue (is_thing h.slots q) × (cells h'.slots q ≡ cells h.slots q)) → (IsTrue (is_thing h'.slots r) → IsShaped h'.slots (cells h'.slots r)) → Standing h' → IsWellFormed (flat h') → h'.jobs.waiting ≡ h.jobs.waiting → h'.words.is_open ≡ h.words.is_open → Sound h'
sound_edited h h' r s k others here standing store js closed = record {
  standing = standing;
  things = λ q t. elim (cases_eq q r) [
    | inl e ↦ subst (λ a. IsShaped h'.slots (cells h'.slots a)) (sym e) (here (subst (λ a. IsTrue (is_thing h'.slots a)) e t))
    | inr d ↦ let o = others q t d in subst (IsShaped h'.slots) (sym o.1) (shape_stays h.slots h'.slots k (cells h.slots q) (s.things q o.0))
  ];
  store = store;
  jobs = subst (All (IsJob h'.slots)) (sym js) (All-weaker (IsJob h.slots) (IsJob h'.slots) (job_stays h.slots h'.slots k) h.jobs.waiting s.jobs);
  closed = closed ∙ s.closed;
}
