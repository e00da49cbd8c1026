-- Each form at other places: what decides whether tokens are spelled is their kinds and line breaks.
use Rattle.std.proofs.Common.{◌≡◌, ℕ, ◌≤◌, Bool, true, false, ◌||◌, List, [], ◌∷◌, Option, Some, None, refl, ap, ap₂, sym, ◌∙◌, subst}
use Rattle.std.specs.Prelude.{nat_le}
use Rattle.es_model.specs.declared.kinds.Semi.TheVariants as semi
use Rattle.es_model.specs.declared.kinds.FunctionKind.{FunctionKind}
use Rattle.es_model.specs.declared.kinds.FunctionKind.TheVariants as f
use Rattle.es_model.specs.declared.kinds.MemberKind.{MemberKind}
use Rattle.es_model.specs.declared.kinds.MemberKind.TheVariants as m
use Rattle.es_model.specs.declared.names.Identifier.{Identifier}
use Rattle.es_model.specs.Tree as t
use Rattle.es_model.specs.Tree.{Tree}
use Rattle.es_model.specs.Levels.{operator_sign, left_level, right_level, assignment_sign, unary_sign, level, is_nullish, is_bare_new, is_declaration, ends_in_short_if, defaults, may_be_fixed, Holder, InObject, InClass}
use Rattle.es_model.specs.Readings.{Tokens, Reading, never, ◌▸◌, given, here, may_miss, may_miss_bare, may_miss_after_do, may_miss_after_export}
use Rattle.es_model.specs.Spelling as s
use Rattle.es_model.specs.Spelling.{Spells, AsExpression, AsStatement, AsDefault, AsMember, spells}
use Rattle.js_parser.proofs.Moved.{Alike, same_kind, Moves, seq, into, under, impossible, nothing_stays, the_stays, the_name_stays, number_stays, string_stays, property_stays, named, name_moves, here_moves, same_line_moves, not_first_moves, by_shape, semicolon_stays}
use Rattle.js_parser.proofs.MovedWords.{step_stays, assigning_stays, declaring_word_stays, static_stays, accessor_stays, own_at, maybe_name_moves, class_name_moves, NamePlaces, names_at, names_move, arrow_names_move, member_parameters_move, pairs_at, exported_from_moves, exported_moves, braced_move, import_list_moves}
use Rattle.js_parser.proofs.MovedTrees.{Same, Like, Moved, Likes, list_at, least_moves, base_moves, callee_moves, target_moves, inner_moves, initialised_kept, defaults_same, elements_move, arguments_move, pieces_move, joined_move, statements_move, cases_move, items_move, braces_move, class_members_move, object_members_move, maybe_moves, block_at, finally_moves, catch_moves, guards_same}

-- Functions.

plain_function_moves : {A B : Type 0} {Own : A → Reading} {own : Reading} {Body : B → Reading} {body : Reading} (at : ℕ) → Moves Own own → (parameters : List Identifier) → Moves Body body
    → Moves {A = ℕ × A × NamePlaces parameters × B} (λ p. s.plain_function p.0 (Own p.1) (names_at parameters p.2) (Body p.3)) (s.plain_function at own parameters body)
plain_function_moves at own parameters body =
    into _ (λ p. (p.0, p.1.1.0, p.1.1.1.1.0, p.1.1.1.1.1.1)) (λ p from to h. h)
    (here_moves at (λ place. seq (the_stays "function") (seq own (seq (the_stays "(") (seq (names_move parameters) (seq (the_stays ")") body))))))

arrow_moves : {B : Type 0} {Body : B → Reading} {body : Reading} (at : ℕ) (parameters : List Identifier) → Moves Body body
    → Moves {A = ℕ × NamePlaces parameters × B} (λ p. s.function_reading AsExpression p.0 None f.Arrow (names_at parameters p.1) (λ arrow. Body p.2)) (s.function_reading AsExpression at None f.Arrow parameters (λ arrow. body))
arrow_moves at parameters body =
    into _ (λ p. (p.0, p.1.0, p.1.1.1)) (λ p from to h. h)
    (here_moves at (λ place. seq (arrow_names_move parameters) (seq (same_line_moves (the_stays "=>")) body)))

member_function_moves : {B : Type 0} {Body : B → Reading} {body : Reading} (at place : ℕ) (own : Option Identifier) (due kind : FunctionKind) (start : ℕ) (member : MemberKind) (parameters : List Identifier) → Moves Body body
    → Moves {A = NamePlaces parameters × B} (λ p. s.function_reading (AsMember place due member) place own kind (names_at parameters p.0) (λ arrow. Body p.1)) (s.function_reading (AsMember start due member) at own kind parameters (λ arrow. body))
member_function_moves at place own due kind start member parameters body =
    under (λ p. (place ≡ place) × (own ≡ None) × (kind ≡ due)) (λ p h. (refl, h.1, h.2))
    (into _ (λ p. (p.1.0, p.1.1.1)) (λ p from to h. h) (seq (the_stays "(") (seq (member_parameters_move member parameters) (seq (the_stays ")") body))))

function_moves : (at : ℕ) (own : Option Identifier) (kind : FunctionKind) (parameters : List Identifier) (body : Tree t.body) → Moved t.body body → Moved t.function (t.FunctionOf at own kind parameters body)
unfolding Spells
function_moves at own kind parameters body moves place (AsMember start due member) = into _ (λ p. (t.FunctionOf place own kind (names_at parameters p.0) p.1.0, refl)) (λ p from to h. h) (member_function_moves at place own due kind start member parameters (moves false))
function_moves at own f.Plain parameters body moves place AsExpression = into _ (λ p. (t.FunctionOf p.0 (own_at own p.1) f.Plain (names_at parameters p.2) p.3.0, refl)) (λ p from to h. h) (plain_function_moves at (maybe_name_moves own) parameters (moves false))
function_moves at None f.Arrow parameters body moves place AsExpression = into _ (λ p. (t.FunctionOf p.0 None f.Arrow (names_at parameters p.1) p.2.0, refl)) (λ p from to h. h) (arrow_moves at parameters (moves true))
function_moves at (Some own) f.Plain parameters body moves place AsStatement = into _ (λ p. (t.FunctionOf p.0 (Some (named own.name p.1)) f.Plain (names_at parameters p.2) p.3.0, refl)) (λ p from to h. h) (plain_function_moves at (name_moves own) parameters (moves false))
function_moves at own f.Plain parameters body moves place AsDefault = into _ (λ p. (t.FunctionOf p.0 (own_at own p.1) f.Plain (names_at parameters p.2) p.3.0, refl)) (λ p from to h. h) (plain_function_moves at (maybe_name_moves own) parameters (moves false))
function_moves _ _ _ _ _ moves place _ = impossible _

-- Members.

kind_same : (holder : Holder) (fixed : Bool) (kind : MemberKind) (a b : Tree t.key) → Same t.key a b → s.member_function_kind holder fixed kind a ≡ s.member_function_kind holder fixed kind b
kind_same holder fixed m.Getter a b e = refl
kind_same holder fixed m.Setter a b e = refl
kind_same InObject fixed m.Method a b e = refl
kind_same (InClass derived) true m.Method a b e = refl
kind_same (InClass derived) false m.Method a b e = rw e refl
kind_same InObject fixed m.Value a b e = refl
kind_same (InClass derived) true m.Value a b e = refl
kind_same (InClass derived) false m.Value a b e = rw e refl
kind_same InObject fixed m.Short a b e = refl
kind_same (InClass derived) true m.Short a b e = refl
kind_same (InClass derived) false m.Short a b e = rw e refl

function_member_moves : (holder : Holder) (at : ℕ) (fixed : Bool) (kind : MemberKind) (key : Tree t.key) (function : Tree t.function) → Moved t.key key → Moved t.function function
    → Moves {A = ℕ × Like key × Like function} (λ p. s.function_member holder p.0 fixed kind p.1.0 (Spells p.1.0) (Spells p.2.0)) (s.function_member holder at fixed kind key (Spells key) (Spells function))
function_member_moves holder at fixed kind key function keyed moves =
    under (λ p. may_be_fixed holder fixed ≡ true) (λ p h. h)
    (into _ (λ p. (p.0, p.1.1.1.0, p.1.1.1.1)) (λ p from to h. subst (λ due. here p.0 (s.static_before fixed ▸ s.accessor_word kind ▸ Spells {s = t.key} p.1.1.1.0.0 ▸ Spells {s = t.function} p.1.1.1.1.0 (AsMember p.0 due kind)) from to) (kind_same holder fixed kind key p.1.1.1.0.0 p.1.1.1.0.1) h)
    (here_moves at (λ place. seq (static_stays fixed) (seq (accessor_stays kind) (seq keyed (moves place (AsMember at (s.member_function_kind holder fixed kind key) kind)))))))

value_member_moves : (holder : Holder) (at : ℕ) (fixed : Bool) (key : Tree t.key) (value : Tree t.expression) → Moved t.key key → Moved t.expression value
    → Moves {A = ℕ × Like key × Like value} (λ p. s.value_member holder p.0 fixed (Spells p.1.0) (Spells p.2.0)) (s.value_member holder at fixed (Spells key) (Spells value))
value_member_moves InObject at false key value keyed moves = into _ (λ p. (p.0, p.1.0, p.1.1.1)) (λ p from to h. h) (here_moves at (λ place. seq keyed (seq (the_stays ":") moves)))
value_member_moves InObject at true key value keyed moves = impossible _
value_member_moves (InClass derived) at fixed key value keyed moves = impossible _

short_member_moves : (holder : Holder) (at : ℕ) (fixed : Bool) (key : Tree t.key) → Moves (λ place. s.short_member holder place fixed key) (s.short_member holder at fixed key)
short_member_moves InObject at false (t.KeyWord text) = name_moves (named text at)
short_member_moves _ _ _ _ = impossible _

element_same : (value : Tree t.expression) (o : Like value) → nat_le 2 (level value) ≡ true → nat_le 2 (level o.0) ≡ true
element_same value o h = sym (ap (nat_le 2) o.1.0) ∙ h

never_moves : {A : Type 0} (R : A → Reading) {fact : Type 0} → Moves R (given fact never)
never_moves R from to moved alike h = absurd h.1

with_function_moves : (holder : Holder) (at : ℕ) (fixed : Bool) (kind : MemberKind) (key : Tree t.key) (function : Tree t.function) → Moved t.key key → Moved t.function function
    → Moves {A = ℕ × Like key × Like function} (λ p. given (true ≡ true) (s.function_member holder p.0 fixed kind p.1.0 (Spells p.1.0) (Spells p.2.0))) (given (true ≡ true) (s.function_member holder at fixed kind key (Spells key) (Spells function)))
with_function_moves holder at fixed kind key function keyed moves = under (λ p. true ≡ true) (λ p h. h) (function_member_moves holder at fixed kind key function keyed moves)

member_moves : (at : ℕ) (fixed : Bool) (kind : MemberKind) (key : Tree t.key) (value : Tree (t.option t.expression)) (function : Tree (t.option t.function)) → Moved t.key key → Moved (t.option t.expression) value → Moved (t.option t.function) function → Moved t.member (t.MemberOf at fixed kind key value function)
unfolding Spells
member_moves at fixed m.Value key (t.present value) t.absent keyed moves none holder =
    into _ (λ p. (t.MemberOf p.0 fixed m.Value p.1.0 (t.present p.2.0) t.absent, tt)) (λ p from to h. h)
    (under (λ p. nat_le 2 (level p.2.0) ≡ true) (λ p h. element_same value p.2 h) (value_member_moves holder at fixed key value keyed moves))
member_moves at fixed m.Short key t.absent t.absent keyed moves none holder =
    into _ (λ place. (t.MemberOf place fixed m.Short key t.absent t.absent, tt)) (λ p from to h. h)
    (under (λ p. true ≡ true) (λ p h. h) (short_member_moves holder at fixed key))
member_moves at fixed m.Method key t.absent (t.present function) keyed none moves holder = into _ (λ p. (t.MemberOf p.0 fixed m.Method p.1.0 t.absent (t.present p.2.0), tt)) (λ p from to h. h) (with_function_moves holder at fixed m.Method key function keyed moves)
member_moves at fixed m.Getter key t.absent (t.present function) keyed none moves holder = into _ (λ p. (t.MemberOf p.0 fixed m.Getter p.1.0 t.absent (t.present p.2.0), tt)) (λ p from to h. h) (with_function_moves holder at fixed m.Getter key function keyed moves)
member_moves at fixed m.Setter key t.absent (t.present function) keyed none moves holder = into _ (λ p. (t.MemberOf p.0 fixed m.Setter p.1.0 t.absent (t.present p.2.0), tt)) (λ p from to h. h) (with_function_moves holder at fixed m.Setter key function keyed moves)
member_moves _ _ _ _ _ _ keyed one other holder = never_moves _

-- Each form.

pub moves : {s : t.Sort} (tree : Tree s) → Moved s tree
unfolding Spells
moves t.none = tt
moves (t.more tree trees) = (moves tree, moves trees)
moves t.absent = tt
moves (t.present tree) = moves tree
moves t.This = into _ (λ p. (t.This, (refl, refl, refl, refl, refl))) (λ p from to h. h) (the_stays "this")
moves t.Null = into _ (λ p. (t.Null, (refl, refl, refl, refl, refl))) (λ p from to h. h) (the_stays "null")
moves t.True = into _ (λ p. (t.True, (refl, refl, refl, refl, refl))) (λ p from to h. h) (the_stays "true")
moves t.False = into _ (λ p. (t.False, (refl, refl, refl, refl, refl))) (λ p from to h. h) (the_stays "false")
moves (t.Name one) = into _ (λ p. (t.Name (named one.name p), (refl, refl, refl, refl, refl))) (λ p from to h. h) (name_moves one)
moves (t.Number value) = into _ (λ p. (t.Number value, (refl, refl, refl, refl, refl))) (λ p from to h. h) (number_stays value)
moves (t.String text) = into _ (λ p. (t.String text, (refl, refl, refl, refl, refl))) (λ p from to h. h) (string_stays text)
moves (t.Template texts values) = into _ (λ p. (t.Template texts (list_at values p), (refl, refl, refl, refl, refl))) (λ p from to h. h) (pieces_move true texts values (moves values))
moves (t.Array items) = into _ (λ p. (t.Array (list_at items p.1.0), (refl, refl, refl, refl, refl))) (λ p from to h. h) (seq (the_stays "[") (seq (elements_move items (moves items)) (the_stays "]")))
moves (t.Object members) = into _ (λ p. (t.Object (list_at members p.1.0), (refl, refl, refl, refl, refl))) (λ p from to h. h) (seq (the_stays "{") (seq (object_members_move members (moves members)) (the_stays "}")))
moves (t.Function function) = into _ (λ p. (t.Function p.0, (p.1, refl, refl, refl, refl))) (λ p from to h. h) (moves function 0 AsExpression)
moves (t.Class class) = into _ (λ p. (t.Class p.0, (refl, refl, refl, refl, refl))) (λ p from to h. h) (moves class false)
moves (t.Paren of) = into _ (λ p. (t.Paren p.1.0.0, (refl, p.1.0.1.1, refl, refl, refl))) (λ p from to h. h) (seq (the_stays "(") (seq (moves of) (the_stays ")")))
moves (t.Dot of text) = into _ (λ p. (t.Dot p.0.0 text, (refl, refl, refl, refl, p.0.1.4))) (λ p from to h. h) (seq (base_moves of (moves of)) (seq (the_stays ".") (property_stays text)))
moves (t.Index of key) = into _ (λ p. (t.Index p.0.0 p.1.1.0.0, (refl, refl, refl, refl, p.0.1.4))) (λ p from to h. h) (seq (base_moves of (moves of)) (seq (the_stays "[") (seq (moves key) (the_stays "]"))))
moves (t.SuperDot at text) = into _ (λ p. (t.SuperDot p.0 text, (refl, refl, refl, refl, refl))) (λ p from to h. h) (here_moves at (λ place. seq (the_stays "super") (seq (the_stays ".") (property_stays text))))
moves (t.SuperIndex at key) = into _ (λ p. (t.SuperIndex p.0 p.1.1.1.0.0, (refl, refl, refl, refl, refl))) (λ p from to h. h) (here_moves at (λ place. seq (the_stays "super") (seq (the_stays "[") (seq (moves key) (the_stays "]")))))
moves (t.Call callee arguments) = into _ (λ p. (t.Call p.0.0 (list_at arguments p.1), (refl, refl, refl, refl, refl))) (λ p from to h. h) (seq (base_moves callee (moves callee)) (arguments_move arguments (moves arguments)))
moves (t.New callee t.absent) = into _ (λ p. (t.New p.1.0 t.absent, (refl, refl, refl, refl, refl))) (λ p from to h. h) (seq (the_stays "new") (callee_moves callee (moves callee)))
moves (t.New callee (t.present arguments)) = into _ (λ p. (t.New p.1.0.0 (t.present (list_at arguments p.1.1)), (refl, refl, refl, refl, refl))) (λ p from to h. h) (seq (the_stays "new") (seq (under (λ (o : Like callee). is_bare_new o.0 ≡ false) (λ o h. sym o.1.3 ∙ h) (callee_moves callee (moves callee))) (arguments_move arguments (moves arguments))))
moves (t.SuperCall at arguments) = into _ (λ p. (t.SuperCall p.0 (list_at arguments p.1.1), (refl, refl, refl, refl, refl))) (λ p from to h. h) (here_moves at (λ place. seq (the_stays "super") (arguments_move arguments (moves arguments))))
moves (t.Update at up true of) = into _ (λ p. (t.Update p.0 up true p.1.1.0, (refl, refl, refl, refl, refl))) (λ p from to h. h) (here_moves at (λ place. seq (step_stays up) (target_moves of (moves of))))
moves (t.Update at up false of) = into _ (λ p. (t.Update p.0 up false p.1.0.0, (refl, refl, refl, refl, refl))) (λ p from to h. h) (here_moves at (λ place. seq (target_moves of (moves of)) (same_line_moves (step_stays up))))
moves (t.Unary operator of) = into _ (λ p. (t.Unary operator p.1.0, (refl, refl, refl, refl, refl))) (λ p from to h. h) (seq (the_stays (unary_sign operator)) (least_moves 15 of (moves of)))
moves (t.Typeof of) = into _ (λ p. (t.Typeof p.1.0, (refl, refl, refl, refl, refl))) (λ p from to h. h) (seq (the_stays "typeof") (least_moves 15 of (moves of)))
moves (t.Void of) = into _ (λ p. (t.Void p.1.0, (refl, refl, refl, refl, refl))) (λ p from to h. h) (seq (the_stays "void") (least_moves 15 of (moves of)))
moves (t.Delete at of) = into _ (λ p. (t.Delete p.0 p.1.1.0, (refl, refl, refl, refl, refl))) (λ p from to h. h) (here_moves at (λ place. seq (the_stays "delete") (least_moves 15 of (moves of))))
moves (t.Binary operator left right) = into _ (λ p. (t.Binary operator p.0.0 p.1.1.0, (refl, refl, refl, refl, refl))) (λ p from to h. h) (seq (least_moves (left_level operator) left (moves left)) (seq (the_stays (operator_sign operator)) (least_moves (right_level operator) right (moves right))))
moves (t.In left right) = into _ (λ p. (t.In p.0.0 p.1.1.0, (refl, refl, refl, refl, refl))) (λ p from to h. h) (seq (least_moves 10 left (moves left)) (seq (the_stays "in") (least_moves 11 right (moves right))))
moves (t.InstanceOf left right) = into _ (λ p. (t.InstanceOf p.0.0 p.1.1.0, (refl, refl, refl, refl, refl))) (λ p from to h. h) (seq (least_moves 10 left (moves left)) (seq (the_stays "instanceof") (least_moves 11 right (moves right))))
moves (t.And left right) = into _ (λ p. (t.And p.0.0 p.1.1.0, (refl, refl, refl, refl, refl))) (λ p from to h. h) (seq (least_moves 5 left (moves left)) (seq (the_stays "&&") (least_moves 6 right (moves right))))
moves (t.Or left right) = into _ (λ p. (t.Or p.0.0 p.1.1.0, (refl, refl, refl, refl, refl))) (λ p from to h. h) (seq (under (λ (o : Like left). is_nullish o.0 ≡ false) (λ o h. sym o.1.2 ∙ h) (least_moves 4 left (moves left))) (seq (the_stays "||") (least_moves 5 right (moves right))))
moves (t.Nullish left right) = into _ (λ p. (t.Nullish p.0.0 p.1.1.0, (refl, refl, refl, refl, refl))) (λ p from to h. h) (seq (under (λ (o : Like left). is_nullish o.0 || nat_le 6 (level o.0) ≡ true) (λ o h. sym (ap₂ (λ n l. n || nat_le 6 l) o.1.2 o.1.0) ∙ h) (moves left)) (seq (the_stays "??") (least_moves 6 right (moves right))))
moves (t.Conditional test one other) = into _ (λ p. (t.Conditional p.0.0 p.1.1.0.0 p.1.1.1.1.0, (refl, refl, refl, refl, refl))) (λ p from to h. h) (seq (least_moves 4 test (moves test)) (seq (the_stays "?") (seq (least_moves 2 one (moves one)) (seq (the_stays ":") (least_moves 2 other (moves other))))))
moves (t.Assign at to operator value) = into _ (λ p. (t.Assign p.0 p.1.0.0 operator p.1.1.1.0, (refl, refl, refl, refl, refl))) (λ p from to h. h) (here_moves at (λ place. seq (target_moves to (moves to)) (seq (assigning_stays (assignment_sign operator)) (least_moves 2 value (moves value)))))
moves (t.Comma left right) = into _ (λ p. (t.Comma p.0.0 p.1.1.0, (refl, refl, refl, refl, refl))) (λ p from to h. h) (seq (moves left) (seq (the_stays ",") (least_moves 2 right (moves right))))
moves (t.KeyWord text) = into _ (λ p. (t.KeyWord text, refl)) (λ p from to h. h) (property_stays text)
moves (t.KeyString text) = into _ (λ p. (t.KeyString text, refl)) (λ p from to h. h) (string_stays text)
moves (t.KeyNumber value) = into _ (λ p. (t.KeyNumber value, refl)) (λ p from to h. h) (number_stays value)
moves (t.KeyComputed key) = into _ (λ p. (t.KeyComputed p.1.0.0, refl)) (λ p from to h. h) (seq (the_stays "[") (seq (least_moves 2 key (moves key)) (the_stays "]")))
moves (t.MemberOf at fixed kind key value function) = member_moves at fixed kind key value function (moves key) (moves value) (moves function)
moves (t.FunctionOf at own kind parameters body) = function_moves at own kind parameters body (moves body)
moves (t.BodyStatements statements) = λ arrow. into _ (λ p. (t.BodyStatements (list_at statements p), tt)) (λ p from to h. h) (braces_move statements (moves statements))
moves (t.BodyExpression value) = λ arrow. into _ (λ p. (t.BodyExpression p.0, tt)) (λ p from to h. h) (under (λ p. arrow ≡ true) (λ p h. h) (not_first_moves ("{" ∷ []) (least_moves 2 value (moves value))))
moves (t.ClassOf at own t.absent members) = λ written. into _ (λ p. (t.ClassOf p.0 (own_at own p.1.1.0) t.absent (list_at members p.1.1.1.1.0), tt)) (λ p from to h. h) (here_moves at (λ place. seq (the_stays "class") (seq (class_name_moves written own) (seq (the_stays "{") (seq (class_members_move false members (moves members)) (the_stays "}"))))))
moves (t.ClassOf at own (t.present parent) members) = λ written. into _ (λ p. (t.ClassOf p.0 (own_at own p.1.1.0) (t.present p.1.1.1.1.0.0) (list_at members p.1.1.1.1.1.1.0), tt)) (λ p from to h. h) (here_moves at (λ place. seq (the_stays "class") (seq (class_name_moves written own) (seq (the_stays "extends") (seq (least_moves 17 parent (moves parent)) (seq (the_stays "{") (seq (class_members_move true members (moves members)) (the_stays "}"))))))))
moves t.Empty = into _ (λ p. (t.Empty, (refl, refl))) (λ p from to h. h) (the_stays ";")
moves (t.Value value semi) = into _ (λ p. (t.Value p.0.0 semi, (refl, refl))) (λ p from to h. h) (seq (not_first_moves ("{" ∷ "function" ∷ "class" ∷ []) (moves value)) (semicolon_stays may_miss (by_shape may_miss (λ token at. refl)) semi))
moves (t.Declare constant declarators semi) = into _ (λ p. (t.Declare constant (list_at declarators p.1.0) semi, (refl, refl))) (λ p from to h. h) (under (λ p. s.Initialised constant (list_at declarators p.1.0)) (λ p h. initialised_kept constant declarators p.1.0 h) (seq (declaring_word_stays constant) (seq (joined_move declarators (moves declarators)) (semicolon_stays may_miss (by_shape may_miss (λ token at. refl)) semi))))
moves (t.DeclaratorOf own t.absent) = into _ (λ p. (t.DeclaratorOf (named own.name p) t.absent, refl)) (λ p from to h. h) (name_moves own)
moves (t.DeclaratorOf own (t.present value)) = into _ (λ p. (t.DeclaratorOf (named own.name p.0) (t.present p.1.1.0), refl)) (λ p from to h. h) (seq (name_moves own) (seq (the_stays "=") (least_moves 2 value (moves value))))
moves (t.FunctionStatement function) = into _ (λ p. (t.FunctionStatement p.0, (refl, refl))) (λ p from to h. h) (moves function 0 AsStatement)
moves (t.ClassStatement class) = into _ (λ p. (t.ClassStatement p.0, (refl, refl))) (λ p from to h. h) (moves class true)
moves (t.Block statements) = into _ (λ p. (t.Block (list_at statements p), (refl, refl))) (λ p from to h. h) (braces_move statements (moves statements))
moves (t.If test one t.absent) = into _ (λ p. (t.If p.1.1.0.0 p.1.1.1.1.0 t.absent, (refl, refl))) (λ p from to h. h) (seq (the_stays "if") (seq (the_stays "(") (seq (moves test) (seq (the_stays ")") (inner_moves one (moves one))))))
moves (t.If test one (t.present other)) = into _ (λ p. (t.If p.1.1.0.0 p.1.1.1.1.0.0 (t.present p.1.1.1.1.1.1.0), (refl, p.1.1.1.1.1.1.1.1))) (λ p from to h. h) (seq (the_stays "if") (seq (the_stays "(") (seq (moves test) (seq (the_stays ")") (seq (under {fact = ends_in_short_if one ≡ false} (λ (o : Like one). ends_in_short_if o.0 ≡ false) (λ o h. sym o.1.1 ∙ h) (inner_moves one (moves one))) (seq (the_stays "else") (inner_moves other (moves other))))))))
moves (t.For head test each body) = into _ (λ p. (t.For p.1.1.0.0 p.1.1.1.1.0.0 p.1.1.1.1.1.1.0.0 p.1.1.1.1.1.1.1.1.0, (refl, p.1.1.1.1.1.1.1.1.1.1))) (λ p from to h. h) (seq (the_stays "for") (seq (the_stays "(") (seq (moves head) (seq (the_stays ";") (seq (maybe_moves test (moves test)) (seq (the_stays ";") (seq (maybe_moves each (moves each)) (seq (the_stays ")") (inner_moves body (moves body))))))))))
moves t.HeadNothing = into _ (λ p. (t.HeadNothing, tt)) (λ p from to h. h) (nothing_stays)
moves (t.HeadValue value) = into _ (λ p. (t.HeadValue p.0, tt)) (λ p from to h. h) (moves value)
moves (t.HeadDeclare constant declarators) = into _ (λ p. (t.HeadDeclare constant (list_at declarators p.1), tt)) (λ p from to h. h) (under (λ p. s.Initialised constant (list_at declarators p.1)) (λ p h. initialised_kept constant declarators p.1 h) (seq (declaring_word_stays constant) (joined_move declarators (moves declarators))))
moves (t.While test body) = into _ (λ p. (t.While p.1.1.0.0 p.1.1.1.1.0, (refl, p.1.1.1.1.1.1))) (λ p from to h. h) (seq (the_stays "while") (seq (the_stays "(") (seq (moves test) (seq (the_stays ")") (inner_moves body (moves body))))))
moves (t.DoWhile body test semi) = into _ (λ p. (t.DoWhile p.1.0.0 p.1.1.1.1.0.0 semi, (refl, refl))) (λ p from to h. h) (seq (the_stays "do") (seq (inner_moves body (moves body)) (seq (the_stays "while") (seq (the_stays "(") (seq (moves test) (seq (the_stays ")") (semicolon_stays may_miss_after_do (by_shape may_miss_after_do (λ token at. refl)) semi)))))))
moves (t.Break at semi) = into _ (λ p. (t.Break p.0 semi, (refl, refl))) (λ p from to h. h) (here_moves at (λ place. seq (the_stays "break") (semicolon_stays may_miss_bare (by_shape may_miss_bare (λ token at. refl)) semi)))
moves (t.Continue at semi) = into _ (λ p. (t.Continue p.0 semi, (refl, refl))) (λ p from to h. h) (here_moves at (λ place. seq (the_stays "continue") (semicolon_stays may_miss_bare (by_shape may_miss_bare (λ token at. refl)) semi)))
moves (t.Return at t.absent semi) = into _ (λ p. (t.Return p.0 t.absent semi, (refl, refl))) (λ p from to h. h) (here_moves at (λ place. seq (the_stays "return") (semicolon_stays may_miss_bare (by_shape may_miss_bare (λ token at. refl)) semi)))
moves (t.Return at (t.present value) semi) = into _ (λ p. (t.Return p.0 (t.present p.1.1.0.0) semi, (refl, refl))) (λ p from to h. h) (here_moves at (λ place. seq (the_stays "return") (seq (same_line_moves (moves value)) (semicolon_stays may_miss (by_shape may_miss (λ token at. refl)) semi))))
moves (t.Throw value semi) = into _ (λ p. (t.Throw p.1.0.0 semi, (refl, refl))) (λ p from to h. h) (seq (the_stays "throw") (seq (same_line_moves (moves value)) (semicolon_stays may_miss (by_shape may_miss (λ token at. refl)) semi)))
moves (t.Try block caught catch finally) = into _ (λ p. (t.Try (list_at block p.1.0) (own_at caught p.1.1.0.0) (block_at catch p.1.1.0.1) (block_at finally p.1.1.1), (refl, refl))) (λ p from to h. h) (under (λ p. s.GuardsAre (own_at caught p.1.1.0.0) (block_at catch p.1.1.0.1) (block_at finally p.1.1.1)) (λ p h. guards_same caught p.1.1.0.0 catch finally p.1.1.0.1 p.1.1.1 h) (seq (the_stays "try") (seq (braces_move block (moves block)) (seq (catch_moves caught catch (moves catch)) (finally_moves finally (moves finally))))))
moves (t.Switch value cases) = into _ (λ p. (t.Switch p.1.1.0.0 (list_at cases p.1.1.1.1.1.0), (refl, refl))) (λ p from to h. h) (under (λ p. defaults (list_at cases p.1.1.1.1.1.0) ≤ 1) (λ p h. subst (λ n. n ≤ 1) (defaults_same cases p.1.1.1.1.1.0) h) (seq (the_stays "switch") (seq (the_stays "(") (seq (moves value) (seq (the_stays ")") (seq (the_stays "{") (seq (cases_move cases (moves cases)) (the_stays "}"))))))))
moves (t.CaseOf t.absent body) = into _ (λ p. (t.CaseOf t.absent (list_at body p.1.1), refl)) (λ p from to h. h) (seq (the_stays "default") (seq (the_stays ":") (statements_move body (moves body))))
moves (t.CaseOf (t.present test) body) = into _ (λ p. (t.CaseOf (t.present p.1.0.0) (list_at body p.1.1.1), refl)) (λ p from to h. h) (seq (the_stays "case") (seq (moves test) (seq (the_stays ":") (statements_move body (moves body)))))
moves (t.DefaultFunction function) = λ mark. into _ (λ p. (t.DefaultFunction p.0, tt)) (λ p from to h. h) (under (λ p. mark ≡ semi.Missing) (λ p h. h) (moves function 0 AsDefault))
moves (t.DefaultClass class) = λ mark. into _ (λ p. (t.DefaultClass p.0, tt)) (λ p from to h. h) (under (λ p. mark ≡ semi.Missing) (λ p h. h) (moves class false))
moves (t.DefaultValue value) = λ mark. into _ (λ p. (t.DefaultValue p.0.0, tt)) (λ p from to h. h) (seq (not_first_moves ("function" ∷ "class" ∷ []) (least_moves 2 value (moves value))) (semicolon_stays may_miss (by_shape may_miss (λ token at. refl)) mark))
moves (t.Import from list semi) = into _ (λ p. (t.Import from (pairs_at list p.1.0) semi, tt)) (λ p from to h. h) (seq (the_stays "import") (seq (import_list_moves list) (seq (string_stays from) (semicolon_stays may_miss (by_shape may_miss (λ token at. refl)) semi))))
moves (t.ExportFrom from list semi) = into _ (λ p. (t.ExportFrom from (pairs_at list p.1.0) semi, tt)) (λ p from to h. h) (seq (the_stays "export") (seq (braced_move s.exported_from exported_from_moves list) (seq (the_name_stays "from") (seq (string_stays from) (semicolon_stays may_miss (by_shape may_miss (λ token at. refl)) semi)))))
moves (t.ExportNames list semi) = into _ (λ p. (t.ExportNames (pairs_at list p.1.0) semi, tt)) (λ p from to h. h) (seq (the_stays "export") (seq (braced_move s.exported exported_moves list) (semicolon_stays may_miss_after_export (by_shape may_miss_after_export (λ token at. refl)) semi)))
moves (t.ExportDeclaration statement) = into _ (λ p. (t.ExportDeclaration p.1.0, tt)) (λ p from to h. h) (seq (the_stays "export") (under (λ (o : Like statement). is_declaration o.0 ≡ true) (λ o h. sym o.1.0 ∙ h) (moves statement)))
moves (t.ExportDefault at value semi) = into _ (λ p. (t.ExportDefault p.1.0 p.1.1.1.0 semi, tt)) (λ p from to h. h) (seq (the_stays "export") (here_moves at (λ place. seq (the_stays "default") (moves value semi))))
moves (t.Plain statement) = into _ (λ p. (t.Plain p.0, tt)) (λ p from to h. h) (moves statement)

-- a module's tokens, at other places, are a module's
pub module_moves : (items : Tree (t.list t.item)) (tokens others : Tokens) → Alike tokens others → spells items tokens → (other : Tree (t.list t.item)) × spells other others
module_moves items tokens others alike h =
    let x = items_move items (moves items) tokens (h.0 ∷ []) others alike h.2 in
    finish x.0 x.1 x.2 x.3
  where
    finish : (likes : Likes items) (rest : Tokens) → Alike (h.0 ∷ []) rest → s.sequence (Spells (list_at items likes)) others rest → (other : Tree (t.list t.item)) × spells other others
    finish likes [] same r = absurd same
    finish likes (end ∷ []) same r = (list_at items likes, (end, sym (same_kind h.0 end same.0) ∙ h.1, r))
    finish likes (end ∷ (more ∷ rest)) same r = absurd same.1
