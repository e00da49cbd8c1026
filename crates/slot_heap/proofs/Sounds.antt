-- Sound heaps: a started heap is one, and calls that change no slot leave one.
use Rattle.std.proofs.Common.{◌≡◌, ℕ, suc, zero, true, false, List, [], ◌∷◌, ◌++◌, refl, ap, sym, ◌∙◌, subst, arith, Option, Some, None}
use Rattle.std.specs.List.{All}
use Rattle.std.specs.Prelude.{IsTrue, option_to_list}
use Rattle.std.proofs.lemmas.List.{append-nil}
use Rattle.std.proofs.lemmas.List.Elements.{All-nil, All-push, All-tail}
use Rattle.slot_heap.specs.declared.slot.Job.{Job}
use Rattle.js_value.specs.declared.counts.Room.{Room}
use Rattle.slot_heap.specs.Shown.{low, is_thing, cells, shown}
use Rattle.slot_heap.specs.Chains.{shown_in}
use Rattle.slot_heap.specs.Queue.{Queue}
use Rattle.slot_heap.specs.Texts.{Within, Words}
use Rattle.slot_heap.specs.Held.{Held, Lent, no_room, started}
use Rattle.slot_heap.specs.Flat.{flat}
use Rattle.slot_heap.specs.Standing.{ValueStands, Stays}
use Rattle.slot_heap.specs.Sound.{Sound, IsJob, IsShaped}
use Rattle.slot_heap.proofs.Marks.{no_thing_past}
use Rattle.slot_heap.proofs.Stands.{standing_words, standing_queued, standing_taken}
use Rattle.slot_heap.proofs.Things.{grows_words, flat_words}
use Rattle.js_value.specs.Store.{object_in, cell_in}
use Rattle.js_value.specs.WellFormed.{Ended, Next, IsWellFormed}

-- ---- a started heap

empty_store : IsWellFormed []
unfolding object_in cell_in
empty_store = record {
  orderly = λ n. record { indices = tt; range = tt; length = tt; names = tt; distinct = tt; no_length = tt };
  objects = λ n. record { class = tt; prototype = tt; indexed = tt; named = tt };
  cells = λ n. tt;
  chains = λ n. Next n Ended;
}

no_thing : (n r : ℕ) → IsTrue (is_thing (low [] [] n) r) → ⊥
no_thing n zero t = absurd (cc)
no_thing n (suc i) t = let e = no_thing_past (low [] [] n) i (omega arith) in let f : true ≡ false = sym t ∙ e in absurd (cc)

nothing_shown : (rom : Lent) (room : Room) → flat (started rom room) ≡ []
unfolding flat shown shown_in
nothing_shown rom room = refl

pub started_sound : (rom : Lent) (room : Room) → Sound (started rom room)
started_sound rom room = record {
  standing = record { named = All-nil _; cells = λ r t. absurd (no_thing room.slots r t); jobs = All-nil _ };
  things = λ r t. absurd (no_thing room.slots r t);
  store = subst IsWellFormed (sym (nothing_shown rom room)) empty_store;
  jobs = All-nil _;
  closed = refl;
}

-- ---- the same slots

same_things : (h h' : Held) → h'.slots ≡ h.slots → Sound h → (r : ℕ) → IsTrue (is_thing h'.slots r) → IsShaped h'.slots (cells h'.slots r)
same_things h h' e s = subst (λ l. (r : ℕ) → IsTrue (is_thing l r) → IsShaped l (cells l r)) (sym e) s.things

-- units and names are added
pub sound_words : (h h' : Held) → Sound h → ((more : List ℕ) × (h'.words.units ≡ h.words.units ++ more)) → ((more : List (ℕ × ℕ)) × (h'.words.names ≡ h.words.names ++ more)) → All (Within h'.words.units) h'.words.names → h'.slots ≡ h.slots → h'.jobs.waiting ≡ h.jobs.waiting → h'.words.is_open ≡ false → Sound h'
sound_words h h' s u n w e js closed =
    let g : Stays h h' = record { things = λ q t. subst (λ l. IsTrue (is_thing l q)) (sym e) t; units = u; names = n } in
    record {
      standing = standing_words h h' g s.standing w e js;
      things = same_things h h' e s;
      store = subst IsWellFormed (sym (flat_words h h' s.standing (grows_words h h' u n e) e)) s.store;
      jobs = subst (λ l. All (IsJob l) h'.jobs.waiting) (sym e) (subst (All (IsJob h.slots)) (sym js) s.jobs);
      closed = closed;
    }

pub sound_restarted : (h h' : Held) (room : Room) → h' ≡ record h { used = no_room; limit = room } → Sound h → Sound h'
sound_restarted h h' room e s =
    sound_words h h' s ([], ap (λ g. g.words.units) e ∙ sym (append-nil _)) ([], ap (λ g. g.words.names) e ∙ sym (append-nil _)) (subst (λ g. All (Within g.words.units) g.words.names) (sym e) s.standing.named) (ap (λ g. g.slots) e) (ap (λ g. g.jobs.waiting) e) (ap (λ g. g.words.is_open) e ∙ s.closed)

-- a job is queued, a job is taken
job_more : (h h' : Held) (job : Job) → h'.slots ≡ h.slots → h'.words.units ≡ h.words.units → h'.words.names ≡ h.words.names → h'.words.is_open ≡ h.words.is_open → h'.jobs.waiting ≡ h.jobs.waiting ++ job ∷ [] → IsJob h.slots job → All (ValueStands h) job.values → Sound h → Sound h'
job_more h h' job slots units names is_open waits j v s = record {
  standing = standing_queued h h' job (units, names) slots waits s.standing v;
  things = same_things h h' slots s;
  store = subst IsWellFormed (sym (flat_words h h' s.standing (grows_words h h' ([], units ∙ sym (append-nil _)) ([], names ∙ sym (append-nil _)) slots) slots)) s.store;
  jobs = subst (λ l. All (IsJob l) h'.jobs.waiting) (sym slots) (subst (All (IsJob h.slots)) (sym waits) (All-push (IsJob h.slots) h.jobs.waiting job s.jobs j));
  closed = is_open ∙ s.closed;
}

job_less : (h h' : Held) (job : Job) → h'.slots ≡ h.slots → h'.words.units ≡ h.words.units → h'.words.names ≡ h.words.names → h'.words.is_open ≡ h.words.is_open → h.jobs.waiting ≡ job ∷ h'.jobs.waiting → Sound h → Sound h'
job_less h h' job slots units names is_open waits s = record {
  standing = standing_taken h h' job (units, names) slots waits s.standing;
  things = same_things h h' slots s;
  store = subst IsWellFormed (sym (flat_words h h' s.standing (grows_words h h' ([], units ∙ sym (append-nil _)) ([], names ∙ sym (append-nil _)) slots) slots)) s.store;
  jobs = subst (λ l. All (IsJob l) h'.jobs.waiting) (sym slots) (All-tail (IsJob h.slots) job h'.jobs.waiting (subst (All (IsJob h.slots)) waits s.jobs));
  closed = is_open ∙ s.closed;
}

-- ---- what the code leaves

pub new_name_sound : (g h : Held) (w : Words) (u : Room) (p : ℕ × ℕ) → g ≡ h → w ≡ record g.words { names = g.words.names ++ p ∷ [] } → Within g.words.units p → Sound h → Sound (record g { words = w; used = u })
new_name_sound g h w u p e f i s =
    let s' = subst Sound (sym e) s in
    sound_words g (record g { words = w; used = u }) s' ([], ap (λ (x : Words). x.units) f ∙ sym (append-nil _)) (p ∷ [], ap (λ (x : Words). x.names) f) (subst (λ (x : Words). All (Within x.units) x.names) (sym f) (All-push (Within g.words.units) g.words.names p s'.standing.named i)) refl refl (ap (λ (x : Words). x.is_open) f ∙ s'.closed)

pub new_job_sound : (g h : Held) (q : Queue) (u : Room) (job : Job) → g ≡ h → q ≡ record g.jobs { waiting = g.jobs.waiting ++ job ∷ [] } → Sound h → IsJob h.slots job → All (ValueStands h) job.values → Sound (record g { jobs = q; used = u })
new_job_sound g h q u job e f s j v =
    job_more g (record g { jobs = q; used = u }) job refl refl refl refl (ap (λ (x : Queue). x.waiting) f) (subst (λ x. IsJob x.slots job) (sym e) j) (subst (λ x. All (ValueStands x) job.values) (sym e) v) (subst Sound (sym e) s)

pub job_taken_sound : (g h : Held) (q : Queue) (o : Option Job) → g ≡ h → g.jobs.waiting ≡ option_to_list o ++ q.waiting → Sound h → Sound (record g { jobs = q })
job_taken_sound g h q None e f s =
    let s' = subst Sound (sym e) s in
    sound_words g (record g { jobs = q }) s' ([], sym (append-nil _)) ([], sym (append-nil _)) s'.standing.named refl (sym f) s'.closed
job_taken_sound g h q (Some job) e f s = job_less g (record g { jobs = q }) job refl refl refl refl f (subst Sound (sym e) s)
