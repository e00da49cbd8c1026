-- What a text's end says of its answer, and what the table of ends says of the status.
use Rattle.std.proofs.Common.{◌≡◌, ◌≢◌, ◌↔◌, ◌≤◌, ◌+◌, ◌∙◌, ℕ, Bool, true, false, List, [], ◌∷◌, ◌++◌, ◌&&◌, length, append-nil, Option, Some, None, IfSome, Result, Ok, Err, option_map, nat_le, if◌then◌else◌, ap, sym, refl, subst, arith, rules}
use Rattle.std.specs.Io.KnownBytes.{Appends, Keeps}
use Rattle.std.specs.FinMap as map
use Rattle.std.specs.List.{list_all}
use Rattle.std.specs.FinMap.{gets}
use borrow.Author.Tests.{leb-true}
use Rattle.xs_base.specs.Held.{Contents, held, Gives}
use Rattle.xs_base.specs.Outside.{HasCause, Receives, SentInPart}
use Rattle.es_ops.specs.Host.{written}
use Rattle.js_value.specs.Text.{units}
use Rattle.xs_cli.specs.Thin.{Thin, Blank, Prints, thin, whole, parts, strings, joined, cut_by, is_quote, spells, end_tokens, print_tokens, is_plain, texts_of, most_bytes}
use Rattle.xs_cli.specs.Answer.{Word, answer, of_words, of_file, of_thin, file_of, budget, refusal}
use Rattle.xs_cli.specs.Prints.{events_of, PrintsTexts}
use Rattle.xs_cli.specs.Ends.{Outside, Ends, EndsText, IsCutShort, LineTold, Ended, IsAnswered, status_of}
use Rattle.xs_cli.specs.declared.top.End.{End}
use Rattle.xs_cli.specs.declared.top.End.TheVariants as end
use Rattle.xs_cli.proofs.Prints.{module_told, empty_told}

-- ---- a thin text has few strings

length_joined : (byte : ℕ) (rest : List (List ℕ)) (n : ℕ) → length rest ≤ n + 1 → length (joined byte rest) ≤ n + 1
length_joined byte [] n h = omega arith
length_joined byte (part ∷ rest) n h = h

length_cut : (b : Bool) (byte : ℕ) (rest : List (List ℕ)) (n : ℕ) → length rest ≤ n + 1 → length (cut_by b byte rest) ≤ n + 2
length_cut true byte rest n h = omega arith
length_cut false byte rest n h = omega (arith, length_joined byte rest n h)

pub length_parts : (text : List ℕ) → length (parts text) ≤ length text + 1
unfolding parts
length_parts [] = omega arith
length_parts (byte ∷ bytes) = omega (arith, length_cut (is_quote byte) byte (parts bytes) (length bytes) (length_parts bytes))

only_some : {A B : Type 0} (b : Bool) (f : A → B) (o : Option A) (x : B) → ◌≡◌ {A = Option B} (option_map f (if b then o else None)) (Some x) → ◌≡◌ {A = Option B} (option_map f o) (Some x)
only_some true f o x e = e
only_some false f o x e = absurd (cc)

some_texts : (b : Bool) (o : Option (List (List ℕ))) (texts : List (List ℕ)) → ◌≡◌ {A = Option (List (List ℕ))} (if b then o else None) (Some texts) → o ≡ Some texts
some_texts true o texts e = e
some_texts false o texts e = absurd (cc)

mapped : {A B : Type 0} (f : A → B) (o : Option A) (x : B) → ◌≡◌ {A = Option B} (option_map f o) (Some x) → (a : A) × (◌≡◌ {A = Option A} o (Some a)) × (x ≡ f a)
mapped f None x e = absurd (cc)
mapped f (Some a) x e = (a, refl, cc)

length_strings : (called : Bool) (rest : List (List ℕ)) (texts : List (List ℕ)) → strings called rest ≡ Some texts → length texts ≤ length rest
unfolding strings
length_strings called [] texts e = absurd (cc)
length_strings called (last ∷ []) texts e =
    let none : [] ≡ texts = let some = some_texts (spells (end_tokens called) last) (Some []) texts e in cc in
    omega (arith, ap length none)
length_strings called (between ∷ argument ∷ rest) texts e =
    let m = mapped (λ later. units argument ∷ later) (strings true rest) texts (some_texts (spells (end_tokens called ++ print_tokens) between && list_all is_plain argument) (option_map (λ later. units argument ∷ later) (strings true rest)) texts e) in
    omega (arith, length_strings true rest m.0 m.1, ap length m.2)

length_whole : (ps : List (List ℕ)) (texts : List (List ℕ)) → option_map texts_of (whole ps) ≡ Some texts → length texts ≤ length ps
length_whole [] texts e = absurd (cc)
length_whole (part ∷ []) texts e =
    let none : [] ≡ texts = let some = only_some _ texts_of (Some Blank) texts e in cc in
    omega (arith, ap length none)
length_whole (head ∷ from ∷ rest) texts e =
    let m = mapped texts_of (option_map Prints (strings false rest)) texts (only_some _ texts_of (option_map Prints (strings false rest)) texts e) in
    let p = mapped Prints (strings false rest) m.0 m.1 in
    omega (arith, length_strings false rest p.0 p.1, ap length (m.2 ∙ ap texts_of p.2))

few_by : (b : Bool) (text : List ℕ) (texts : List (List ℕ)) → nat_le (length text) most_bytes ≡ b → option_map texts_of (if b then whole (parts text) else None) ≡ Some texts → length texts ≤ 16001
few_by true text texts t e = omega (arith, length_whole (parts text) texts e, length_parts text, leb-true _ _ t)
few_by false text texts t e = absurd (cc)

pub few_texts : (text : List ℕ) (texts : List (List ℕ)) → option_map texts_of (thin text) ≡ Some texts → length texts ≤ 16001
few_texts text texts e = few_by (nat_le (length text) most_bytes) text texts refl e

-- ---- the answer of a thin text

answer_by : (o : Option Thin) (texts : List (List ℕ)) → option_map texts_of o ≡ Some texts → length texts ≤ budget → of_thin o ≡ record { status = 0; bytes = written (events_of texts) }
unfolding events_of
answer_by None texts e few = absurd (cc)
answer_by (Some Blank) texts e few =
    let none : [] ≡ texts = cc in
    empty_told budget ∙ ap (λ ts. record { status = 0; bytes = written (events_of ts) }) none
answer_by (Some (Prints ts)) texts e few =
    let same : ts ≡ texts = cc in
    module_told budget ts (omega (arith, ap length same)) ∙ ap (λ t. record { status = 0; bytes = written (events_of t) }) same

pub of_text : (text : List ℕ) (texts : List (List ℕ)) → option_map texts_of (thin text) ≡ Some texts → of_thin (thin text) ≡ record { status = 0; bytes = written (events_of texts) }
of_text text texts e = answer_by (thin text) texts e (omega (arith, few_texts text texts e))

pub ends_printed : (e : End) (text : List ℕ) (texts : List (List ℕ)) (old new : Option (List ℕ)) (before now : ℕ) → option_map texts_of (thin text) ≡ Some texts → PrintsTexts texts old new before now e → EndsText text old new before now e
ends_printed end.Done text texts old new before now t h =
    let a = of_text text texts t in
    (ap (λ x. x.status) a, subst (Appends old new) (sym (ap (λ x. x.bytes) a)) h.0, h.1)
ends_printed end.WriteFailed text texts old new before now t h =
    (subst (SentInPart old new) (sym (ap (λ x. x.bytes) (of_text text texts t))) h.0, h.1)
ends_printed end.Memory text texts old new before now t h = h
ends_printed end.Usage text texts old new before now t h = absurd h
ends_printed end.NotThin text texts old new before now t h = absurd h
ends_printed end.NoFile text texts old new before now t h = absurd h
ends_printed end.FileFailed text texts old new before now t h = absurd h

-- ---- the table of ends

-- some contents that are those told, where they are, and in which the file holds the bytes
contents_giving : (told : Option Contents) (file bytes : List ℕ) → Gives told file bytes → (c : Contents) × IfSome told (λ m. m ≡ c) × (held c file ≡ Some bytes)
contents_giving None file bytes h = (map.insert map.empty file bytes, tt, grind (gets, rules))
contents_giving (Some m) file bytes h = (m, refl, h)

any_contents : (told : Option Contents) → (c : Contents) × IfSome told (λ m. m ≡ c)
any_contents None = (map.empty, tt)
any_contents (Some m) = (m, refl)

appends_none : (a b : Option (List ℕ)) → Keeps a b → Appends a b []
appends_none None b k = tt
appends_none (Some x) None k = k
appends_none (Some x) (Some y) k = k ∙ sym (append-nil x)

answer_at : (words : List Word) (c : Contents) (file : Word) (text : List ℕ) → file_of words ≡ Some file → held c file ≡ Some text → answer words c ≡ of_thin (thin text)
answer_at words c file text f h = ap (λ x. of_words x c) f ∙ ap of_file h

table_answered : (words : List Word) (before after : Outside) (e : End) → Ends words before after e → status_of e ≢ 6 → status_of e ≢ 7 → IsAnswered words before after (status_of e)
table_answered words before after end.Usage h six seven =
    let c = any_contents before.holds in
    let a : answer words c.0 ≡ refusal 2 = ap (λ x. of_words x c.0) h.0 in
    record { contents = c.0; told = c.1; same = sym (ap (λ x. x.status) a); bytes = subst (Appends before.written after.written) (sym (ap (λ x. x.bytes) a)) (appends_none _ _ h.1) }
table_answered words before after end.Done h six seven =
    let g = h.1 in
    let c = contents_giving before.holds g.0 h.0 g.2 in
    let a = answer_at words c.0 g.0 h.0 g.1 c.2 in
    record { contents = c.0; told = c.1; same = sym (ap (λ x. x.status) a ∙ h.2); bytes = subst (Appends before.written after.written) (sym (ap (λ x. x.bytes) a)) h.3 }
table_answered words before after end.NotThin h six seven =
    let g = h.1 in
    let c = contents_giving before.holds g.0 h.0 g.2 in
    let a : answer words c.0 ≡ refusal 3 = answer_at words c.0 g.0 h.0 g.1 c.2 ∙ ap of_thin h.2 in
    record { contents = c.0; told = c.1; same = sym (ap (λ x. x.status) a); bytes = subst (Appends before.written after.written) (sym (ap (λ x. x.bytes) a)) (appends_none _ _ h.3) }
table_answered words before after end.NoFile h six seven = absurd (six refl)
table_answered words before after end.FileFailed h six seven = absurd (six refl)
table_answered words before after end.WriteFailed h six seven = absurd (six refl)
table_answered words before after end.Memory h six seven = absurd (seven refl)

pub answered : (words : List Word) (before after : Outside) (e : End) → Ended words before after e → status_of e ≢ 6 → status_of e ≢ 7 → IsAnswered words before after (status_of e)
answered words before after e h = table_answered words before after e h.cause

-- a front of nothing
nothing_sent : (a b : Option (List ℕ)) (bytes : List ℕ) → Keeps a b → SentInPart a b bytes
nothing_sent a b bytes k = (bytes, record { front = []; whole = refl; received = appends_none a b k })

table_cut_short : (words : List Word) (before after : Outside) (e : End) → Ends words before after e → status_of e ≡ 6 → IsCutShort words before after
table_cut_short words before after end.NoFile h six = let c = any_contents before.holds in record { contents = c.0; told = c.1; part = nothing_sent _ _ _ h.6 }
table_cut_short words before after end.FileFailed h six = let c = any_contents before.holds in record { contents = c.0; told = c.1; part = nothing_sent _ _ _ h.4 }
table_cut_short words before after end.WriteFailed h six =
    let g = h.1 in
    let c = contents_giving before.holds g.0 h.0 g.2 in
    let a = answer_at words c.0 g.0 h.0 g.1 c.2 in
    record { contents = c.0; told = c.1; part = subst (SentInPart before.written after.written) (sym (ap (λ x. x.bytes) a)) h.2 }
table_cut_short words before after end.Usage h six = absurd (omega arith)
table_cut_short words before after end.Done h six = absurd (omega arith)
table_cut_short words before after end.NotThin h six = absurd (omega arith)
table_cut_short words before after end.Memory h six = absurd (omega arith)

pub cut_short : (words : List Word) (before after : Outside) (e : End) → Ended words before after e → status_of e ≡ 6 → IsCutShort words before after
cut_short words before after e h = table_cut_short words before after e h.cause

table_usage : (words : List Word) (before after : Outside) (e : End) → Ends words before after e → status_of e ≡ 2 ↔ (file_of words ≡ None)
table_usage words before after end.Usage h = (λ _. h.0, λ _. refl)
table_usage words before after end.Done h = (λ e. absurd (omega arith), λ n. let f = h.1.1 in absurd (cc))
table_usage words before after end.NotThin h = (λ e. absurd (omega arith), λ n. let f = h.1.1 in absurd (cc))
table_usage words before after end.NoFile h = (λ e. absurd (omega arith), λ n. let f = h.1 in absurd (cc))
table_usage words before after end.FileFailed h = (λ e. absurd (omega arith), λ n. let f = h.0.1 in absurd (cc))
table_usage words before after end.WriteFailed h = (λ e. absurd (omega arith), λ n. let f = h.1.1 in absurd (cc))
table_usage words before after end.Memory h = (λ e. absurd (omega arith), λ n. let f = h.0.1 in absurd (cc))

pub usage_exactly : (words : List Word) (before after : Outside) (e : End) → Ended words before after e → status_of e ≡ 2 ↔ (file_of words ≡ None)
usage_exactly words before after e h = table_usage words before after e h.cause

pub line_told : {T E : Type 0} (old new : Option (List ℕ)) (before now : ℕ) (r : Result T E) (line : List ℕ) → Receives old new r line → HasCause before now r → LineTold old new before now line
line_told old new before now (Ok x) line r c = record { told = λ _. r; part = ([], record { front = line; whole = sym (append-nil line); received = r }) }
line_told old new before now (Err e) line r c = record { told = λ f. absurd (f c.failed); part = r }
