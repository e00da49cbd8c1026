-- A run on its way: what is written so far, and what the definition says of the rest.
use Rattle.std.proofs.Common.{◌≡◌, ◌∙◌, ◌+◌, ◌++◌, ℕ, List, [], ◌∷◌, Option, Some, None, Ok, Err, option_map, unwrap_or, length, drop, ap, sym, refl, subst, append_assoc, append-nil}
use Rattle.std.proofs.lemmas.List.{drop-drop, drop_at}
use Rattle.std.specs.Io.KnownBytes.{Appends, Keeps}
use Rattle.std.proofs.KnownBytes.{Appends-trans}
use Rattle.xs_base.specs.Outside.{SentInPart}
use Rattle.xs_base.proofs.Writes.{SentInPart-after, SentInPart-longer}
use Rattle.byte_code.specs.declared.instruction.Op.{Op}
use Rattle.byte_code.specs.Instructions.{spelling, IsInstruction, Begins}
use Rattle.es_ops.specs.State.{TraceEvent}
use Rattle.es_ops.specs.Host.{written}
use Rattle.es_ops.proofs.Lines.{written-append}
use Rattle.xs_cli.specs.Code.{spelled, AreInstructions}
use Rattle.xs_cli.specs.Machine.{Stepped, Goes, Returned, Stuck, after, step, runs}
use Rattle.xs_cli.specs.Steps.{DoesStep, DoesRun}
use Rattle.xs_cli.specs.declared.machine.stack.Value.{Value}
use Rattle.xs_cli.specs.declared.machine.Fault.{Fault}
use Rattle.xs_cli.specs.declared.machine.Fault.TheVariants as fault
use Rattle.xs_cli.specs.declared.machine.Flow.TheVariants as flow

-- from this place of the code on, with this stack, such events are still to come
pub record IsRunning (names : List (List ℕ)) (code : List ℕ) (at : ℕ) (stack : List Value) (old now : Option (List ℕ)) (events : List TraceEvent) : Type 0 where
  pub rest : List Op
  pub good : AreInstructions rest
  pub stands : drop at code ≡ spelled rest
  pub before : List TraceEvent
  pub later : List TraceEvent
  pub all : events ≡ before ++ later
  pub runs_on : runs names rest stack ≡ Some later
  pub sent : Appends old now (written before)

pub begun : (names : List (List ℕ)) (code : List ℕ) (old : Option (List ℕ)) (ops : List Op) (events : List TraceEvent) → AreInstructions ops → code ≡ spelled ops → runs names ops [] ≡ Some events → Appends old old [] → IsRunning names code 0 [] old old events
begun names code old ops events good e r none = record { rest = ops; good = good; stands = e; before = []; later = events; all = refl; runs_on = r; sent = none }

pub kept : (old new : Option (List ℕ)) → Keeps old new → Appends old new []
kept None new k = tt
kept (Some x) None k = k
kept (Some x) (Some y) k = k ∙ sym (append-nil x)

-- ---- the next instruction

abbrev pub Decodes : List ℕ → Op → ℕ → Type 0
Decodes bytes op count = (other : Op) → IsInstruction other → Begins bytes other → ◌≡◌ {A = Option (Op × ℕ)} (Some (op, count)) (Some (other, length (spelling other)))

next : (names : List (List ℕ)) (bytes : List ℕ) (stack : List Value) (op : Op) (count : ℕ) (rest : List Op) (later : List TraceEvent) → AreInstructions rest → bytes ≡ spelled rest → runs names rest stack ≡ Some later → Decodes bytes op count → (more : List Op) × (rest ≡ op ∷ more) × (count ≡ length (spelling op))
unfolding runs spelled
next names bytes stack op count [] later good e r d = absurd (cc)
next names bytes stack op count (o ∷ more) later good e r d =
    let same = d o good.0 (record { rest = spelled more; split = e }) in
    let it : op ≡ o = ap (λ found. (unwrap_or {T = Op × ℕ} found (op, count)).0) same in
    (more, ap (λ x. x ∷ more) (sym it), ap (λ found. (unwrap_or {T = Op × ℕ} found (op, count)).1) same ∙ ap (λ x. length (spelling x)) (sym it))

-- ---- what it did

went_on : (events : List TraceEvent) (rest : Option (List TraceEvent)) (later : List TraceEvent) → option_map (λ tail. events ++ tail) rest ≡ Some later → (tail : List TraceEvent) × (later ≡ events ++ tail) × (rest ≡ Some tail)
went_on events None later e = absurd (cc)
went_on events (Some tail) later e = (tail, cc, refl)

went : (s : Stepped) (names : List (List ℕ)) (more : List Op) (stack : List Value) (later : List TraceEvent) (mid new : Option (List ℕ)) → after s (runs names more) ≡ Some later → DoesStep s stack mid new (Ok flow.Goes) → (events tail : List TraceEvent) × (later ≡ events ++ tail) × (runs names more stack ≡ Some tail) × Appends mid new (written events)
went (Goes st events) names more stack later mid new e d =
    let w = went_on events (runs names more st) later e in
    (events, w.0, w.1, ap (runs names more) d.0 ∙ w.2, d.1)
went Returned names more stack later mid new e d = absurd d
went Stuck names more stack later mid new e d = absurd d

ended : (s : Stepped) (rest : List Value → Option (List TraceEvent)) (stack : List Value) (later : List TraceEvent) (mid new : Option (List ℕ)) → after s rest ≡ Some later → DoesStep s stack mid new (Ok flow.Returns) → (later ≡ []) × Keeps mid new
ended (Goes st events) rest stack later mid new e d = absurd d
ended Returned rest stack later mid new e d = (cc, d)
ended Stuck rest stack later mid new e d = absurd d

failed : (s : Stepped) (names : List (List ℕ)) (more : List Op) (stack : List Value) (later : List TraceEvent) (mid new : Option (List ℕ)) (f : Fault) → after s (runs names more) ≡ Some later → DoesStep s stack mid new (Err f) → DoesRun (written later) mid new (Err f)
failed (Goes st events) names more stack later mid new fault.Write e d =
    let w = went_on events (runs names more st) later e in
    subst (SentInPart mid new) (sym (ap written w.1 ∙ written-append events w.0)) (SentInPart-longer mid new (written events) (written w.0) d)
failed (Goes st events) names more stack later mid new fault.Stuck e d = absurd d
failed Returned names more stack later mid new f e d = absurd d
failed Stuck names more stack later mid new f e d = absurd (cc)

-- ---- the run

pub steps_on : (names : List (List ℕ)) (code : List ℕ) (at : ℕ) (stack stack' : List Value) (old mid new : Option (List ℕ)) (events : List TraceEvent) (op : Op) (count : ℕ) → IsRunning names code at stack old mid events → Decodes (drop at code) op count → DoesStep (step names op stack) stack' mid new (Ok flow.Goes) → IsRunning names code (at + count) stack' old new events
unfolding runs spelled
steps_on names code at stack stack' old mid new events op count r d did =
    let n = next names (drop at code) stack op count r.rest r.later r.good r.stands r.runs_on d in
    let w = went (step names op stack) names n.0 stack' r.later mid new (ap (λ ops. runs names ops stack) (sym n.1) ∙ r.runs_on) did in
    record {
      rest = n.0;
      good = (subst AreInstructions n.1 r.good).1;
      stands = sym (drop-drop count at code) ∙ ap (drop count) (r.stands ∙ ap spelled n.1) ∙ drop_at (spelling op) (spelled n.0) count (sym n.2);
      before = r.before ++ w.0;
      later = w.1;
      all = r.all ∙ ap (λ l. r.before ++ l) w.2 ∙ sym (append_assoc r.before w.0 w.1);
      runs_on = w.3;
      sent = subst (Appends old new) (sym (written-append r.before w.0)) (Appends-trans old mid new (written r.before) (written w.0) r.sent w.4);
    }

pub ends_all : (names : List (List ℕ)) (code : List ℕ) (at : ℕ) (stack stack' : List Value) (old mid new : Option (List ℕ)) (events : List TraceEvent) (op : Op) (count : ℕ) → IsRunning names code at stack old mid events → Decodes (drop at code) op count → DoesStep (step names op stack) stack' mid new (Ok flow.Returns) → Appends old new (written events)
unfolding runs
ends_all names code at stack stack' old mid new events op count r d did =
    let n = next names (drop at code) stack op count r.rest r.later r.good r.stands r.runs_on d in
    let w = ended (step names op stack) (runs names n.0) stack' r.later mid new (ap (λ ops. runs names ops stack) (sym n.1) ∙ r.runs_on) did in
    subst (Appends old new) (append-nil (written r.before) ∙ ap written (sym (r.all ∙ ap (λ l. r.before ++ l) w.0 ∙ append-nil r.before))) (Appends-trans old mid new (written r.before) [] r.sent (kept mid new w.1))

fails_by : (f : Fault) (old mid new : Option (List ℕ)) (before later : List TraceEvent) → Appends old mid (written before) → DoesRun (written later) mid new (Err f) → DoesRun (written (before ++ later)) old new (Err f)
fails_by fault.Write old mid new before later a d = subst (SentInPart old new) (sym (written-append before later)) (SentInPart-after old mid new (written before) (written later) a d)
fails_by fault.Stuck old mid new before later a d = d

pub fails_in : (names : List (List ℕ)) (code : List ℕ) (at : ℕ) (stack stack' : List Value) (old mid new : Option (List ℕ)) (events : List TraceEvent) (op : Op) (count : ℕ) (f : Fault) → IsRunning names code at stack old mid events → Decodes (drop at code) op count → DoesStep (step names op stack) stack' mid new (Err f) → DoesRun (written events) old new (Err f)
unfolding runs
fails_in names code at stack stack' old mid new events op count f r d did =
    let n = next names (drop at code) stack op count r.rest r.later r.good r.stands r.runs_on d in
    let w = failed (step names op stack) names n.0 stack' r.later mid new f (ap (λ ops. runs names ops stack) (sym n.1) ∙ r.runs_on) did in
    subst (λ e. DoesRun (written e) old new (Err f)) (sym r.all) (fails_by f old mid new r.before r.later r.sent w)

stuck_by : (names : List (List ℕ)) (bytes : List ℕ) (stack : List Value) (rest : List Op) (later : List TraceEvent) → AreInstructions rest → bytes ≡ spelled rest → runs names rest stack ≡ Some later → ((other : Op) → IsInstruction other → Begins bytes other → ⊥) → ⊥
unfolding runs spelled
stuck_by names bytes stack [] later good e r d = cc
stuck_by names bytes stack (o ∷ more) later good e r d = d o good.0 (record { rest = spelled more; split = e })

pub never_stuck : (names : List (List ℕ)) (code : List ℕ) (at : ℕ) (stack : List Value) (old mid : Option (List ℕ)) (events : List TraceEvent) → IsRunning names code at stack old mid events → ((other : Op) → IsInstruction other → Begins (drop at code) other → ⊥) → ⊥
never_stuck names code at stack old mid events r d = stuck_by names (drop at code) stack r.rest r.later r.good r.stands r.runs_on d
