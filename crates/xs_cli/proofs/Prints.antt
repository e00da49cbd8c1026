-- A module that prints texts: what its code does in the machine, and what its evaluation does.
use Rattle.std.proofs.Common.{◌≡◌, ◌≤◌, ◌<◌, ◌∙◌, ◌+◌, ◌++◌, ℕ, zero, suc, Bool, true, false, cond, not, nat_lt, List, [], ◌∷◌, length, Option, Some, None, is_some, codes, if◌then◌else◌, refl, ap, sym, arith, append_assoc, append-nil, lit<, ◌^◌}
use Rattle.std.specs.List.{find}
use Rattle.std.specs.Str.{bytes_eq}
use Rattle.std.proofs.lemmas.Slice.Eq.{bytes_eq-Decides}
use Rattle.std.proofs.lemmas.List.Folds.{find_at}
use Rattle.std.proofs.lemmas.List.Sums.{prefix_len-le-length}
use borrow.Author.Tests.{ltb-true}
use Rattle.byte_code.specs.declared.instruction.Op.{Op}
use Rattle.byte_code.specs.declared.instruction.Op.TheVariants as op
use Rattle.byte_code.specs.Instructions.{IsInstruction, IsShortest, parts}
use Rattle.byte_code.specs.Operands.{FitsBytes}
use Rattle.es_model.specs.Tree as t
use Rattle.es_model.specs.Tree.{Tree, Text}
use Rattle.es_ops.specs.State.{TraceEvent}
use Rattle.es_ops.specs.Host.{written, line_events}
use Rattle.es_eval.specs.ThinEvaluation.{Environment, HostCell, Print, State, Normal, Run, meaning, find as bound, evaluator}
use Rattle.es_eval.specs.ThinBoot.{top_level, run, told}
use Rattle.xs_cli.specs.Code.{has_name, with_name, with_names, names_of, number, print_text, body, AreInstructions}
use Rattle.xs_cli.specs.Machine.{runs, name_at}
use Rattle.xs_cli.specs.Prints.{events_of}
use Rattle.xs_cli.specs.Thin.{printing, module_of}
use Rattle.xs_cli.proofs.Names.{place_of, length-names_of}

-- ---- each text is one of the names, and its number leads to it

abbrev Named : List Text → Text → Type 0
Named names text = ◌≡◌ {A = Option Text} (find (λ name. bytes_eq name text) names) (Some text)

first_by : (b : Bool) (name : Text) (rest : Option Text) (text : Text) → bytes_eq name text ≡ b → rest ≡ Some text → ◌≡◌ {A = Option Text} (cond b (Some name) rest) (Some text)
first_by true name rest text e later = ap Some ((bytes_eq-Decides name text).0 e)
first_by false name rest text e later = later

found_by : (b : Bool) (name : Text) (names : List Text) (text : Text) → bytes_eq name text ≡ b → (place_of names text < length names → Named names text) → cond (not b) (1 + place_of names text) 0 < length (name ∷ names) → ◌≡◌ {A = Option Text} (cond b (Some name) (find (λ n. bytes_eq n text) names)) (Some text)
found_by true name names text e later h = ap Some ((bytes_eq-Decides name text).0 e)
found_by false name names text e later h = later (omega arith)

found : (names : List Text) (text : Text) → place_of names text < length names → Named names text
found [] text h = absurd (omega arith)
found (name ∷ names) text h = found_by (bytes_eq name text) name names text refl (found names text) h

has_by : (names : List Text) (text : Text) (b : Bool) → nat_lt (place_of names text) (length names) ≡ b → is_some (cond b (Some (place_of names text)) None) ≡ true → place_of names text < length names
has_by names text true t e = ltb-true _ _ t
has_by names text false t e = absurd (cc)

same : (text : Text) → bytes_eq text text ≡ true
same text = (bytes_eq-Decides text text).1 refl

at_end : (names : List Text) (text : Text) → Named (names ++ text ∷ []) text
at_end [] text = rw (same text) refl
at_end (name ∷ names) text = first_by (bytes_eq name text) name _ text refl (at_end names text)

stays_by : (b : Bool) (name : Text) (names : List Text) (text more : Text) → (Named names text → Named (names ++ more ∷ []) text) → ◌≡◌ {A = Option Text} (cond b (Some name) (find (λ n. bytes_eq n text) names)) (Some text) → ◌≡◌ {A = Option Text} (cond b (Some name) (find (λ n. bytes_eq n text) (names ++ more ∷ []))) (Some text)
stays_by true name names text more later h = h
stays_by false name names text more later h = later h

-- a name stays one as names come behind it
stays : (names : List Text) (text more : Text) → Named names text → Named (names ++ more ∷ []) text
stays [] text more h = absurd (cc)
stays (name ∷ names) text more h = stays_by (bytes_eq name text) name names text more (stays names text more) h

either : (b : Bool) (names : List Text) (text more : Text) → Named names text → Named (if b then names else names ++ more ∷ []) text
either true names text more h = h
either false names text more h = stays names text more h

stays_all : (names texts : List Text) (text : Text) → Named names text → Named (with_names names texts) text
unfolding with_names
stays_all names [] text h = h
stays_all names (more ∷ texts) text h = stays_all (with_name names more) texts text (either (has_name names more) names text more h)

added_by : (b : Bool) (names : List Text) (text : Text) → has_name names text ≡ b → Named (if b then names else names ++ text ∷ []) text
added_by true names text e = found names text (has_by names text (nat_lt (place_of names text) (length names)) refl e)
added_by false names text e = at_end names text

abbrev pub AllNamed : List Text → List Text → Type 0
AllNamed names [] = Unit {0}
AllNamed names (text ∷ texts) = Named names text × AllNamed names texts

all_named : (names texts : List Text) → AllNamed (with_names names texts) texts
unfolding with_names
all_named names [] = tt
all_named names (text ∷ texts) = (stays_all (with_name names text) texts text (added_by (has_name names text) names text refl), all_named (with_name names text) texts)

number_is : (names : List Text) (text : Text) → number names text ≡ suc (place_of names text)
number_is names text = omega arith

leads : (names : List Text) (text : Text) → Named names text → name_at names (number names text) ≡ Some text
leads names text h = ap (name_at names) (number_is names text) ∙ sym (find_at (λ name. bytes_eq name text) names) ∙ h

-- ---- in the machine

prints_one : (names : List Text) (n : ℕ) (text : Text) (rest : List Op) (tail : List TraceEvent) → name_at names n ≡ Some text → runs names rest [] ≡ Some tail → runs names (print_text n ++ rest) [] ≡ Some (line_events text ++ tail)
unfolding runs
prints_one names n text rest tail leads on = rw leads (rw on refl)

prints_all : (names texts : List Text) → AllNamed names texts → runs names (body names texts) [] ≡ Some (events_of texts)
unfolding runs body events_of
prints_all names [] h = refl
prints_all names (text ∷ texts) h = prints_one names (number names text) text (body names texts) (events_of texts) (leads names text h.0) (prints_all names texts h.1)

bare : (o : Op) → FitsBytes (parts o).1 → IsShortest o → IsInstruction o
bare o fits shortest = record { fits = fits; shortest = shortest }

good : (names texts : List Text) → length names < 65535 → AreInstructions (body names texts)
unfolding body
good names [] few = (bare op.Undefined tt tt, (bare op.Return tt tt, tt))
good names (text ∷ texts) few =
    let fits : number names text < 2 ^ 16 = omega (arith, prefix_len-le-length (λ name. not (bytes_eq name text)) names) in
    (bare op.Undefined tt tt, (bare (op.OuterGet 0) (lit< tt) tt, (bare (op.Text (number names text)) fits tt, (bare (op.Call 1) (lit< tt) tt, (bare op.Pop tt tt, good names texts few)))))

-- ---- in evaluation

abbrev pub top : Environment
top = (codes "print", HostCell Print) ∷ []

abbrev pub at_body : ℕ → List TraceEvent → State
at_body units trace = record { meter = units; depth = 0; trace = trace }

-- each call takes a unit, and writes its line
calls_all : (smaller : Run) (texts : List Text) (units : ℕ) (trace : List TraceEvent) → length texts ≤ units → (left : ℕ) × (meaning smaller (printing texts) top (at_body units trace) ≡ Normal tt (at_body left (trace ++ events_of texts)))
unfolding meaning bound printing events_of
calls_all smaller [] units trace h = (units, ap (λ events. Normal tt (at_body units events)) (sym (append-nil trace)))
calls_all smaller (text ∷ texts) zero trace h = absurd (omega arith)
calls_all smaller (text ∷ texts) (suc units) trace h =
    let later = calls_all smaller texts units (trace ++ line_events text) (omega arith) in
    (later.0, later.1 ∙ ap (λ events. Normal tt (at_body later.0 events)) (append_assoc trace (line_events text) (events_of texts)))

no_imports : (texts : List Text) → top_level (printing texts) ≡ Some []
unfolding top_level printing
no_imports [] = refl
no_imports (text ∷ texts) = no_imports texts

-- the evaluation of the module as a boot of it
pub module_told : (budget : ℕ) (texts : List Text) → length texts ≤ budget → told (run budget (module_of texts)) ≡ record { status = 0; bytes = written (events_of texts) }
unfolding run top_level meaning
module_told budget texts h = rw (no_imports texts) (let all = calls_all (evaluator budget) texts budget [] h in ap told all.1)

pub empty_told : (budget : ℕ) → told (run budget t.none) ≡ record { status = 0; bytes = [] }
unfolding run top_level meaning
empty_told budget = refl

-- ---- of a whole module

pub code_prints : (texts : List Text) → runs (names_of texts) (body (names_of texts) texts) [] ≡ Some (events_of texts)
code_prints texts = prints_all (names_of texts) texts (all_named (codes "main" ∷ []) texts)

pub code_good : (texts : List Text) → length texts ≤ 16001 → AreInstructions (body (names_of texts) texts)
code_good texts few = good (names_of texts) texts (omega (arith, length-names_of texts))
