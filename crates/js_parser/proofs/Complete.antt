-- The machine builds every tree from the tokens that spell it.
use Rattle.std.proofs.Common.{◌≡◌, ◌∙◌, sym, ap, subst, refl, true, false, [], ◌∷◌}
use Rattle.es_model.specs.declared.token.TokenKind.TheVariants as k
use Rattle.es_model.specs.Tree as t
use Rattle.es_model.specs.Tree.{Tree}
use Rattle.es_model.specs.Readings.{Tokens, One}
use Rattle.es_model.specs.Spelling.{Spells, spells, sequence}
use Rattle.js_parser.specs.Frame as f
use Rattle.js_parser.specs.ItemFrame as n
use Rattle.js_parser.specs.Control as c
use Rattle.parser_forms.specs.Kept.{followed}
use Rattle.js_parser.specs.Cut.{cut}
use Rattle.js_parser.specs.State.{Frames, state, statement_due}
use Rattle.js_parser.specs.Machine.{run, start}
use Rattle.js_parser.proofs.Laws.{cut_none}
use Rattle.js_parser.proofs.CompleteBase.{takes, Reads, Each, Maybe, appended, appended_none}
use Rattle.js_parser.proofs.CompleteFirst.{first_item}
use Rattle.js_parser.proofs.CompleteClaims.{Behind, behind_at, starts_behind, ReadsStatement, ReadsBody, ReadsFunction, ReadsKey, ReadsMember, ReadsClass, ReadsDeclarator, ReadsHead, ReadsCase, ReadsDefault}
use Rattle.js_parser.proofs.CompleteOperands as operands
use Rattle.js_parser.proofs.CompleteOperators as operators
use Rattle.js_parser.proofs.CompleteLists as lists
use Rattle.js_parser.proofs.CompleteFunctions as functions
use Rattle.js_parser.proofs.CompleteMembers as members
use Rattle.js_parser.proofs.CompleteClasses as classes
use Rattle.js_parser.proofs.CompleteStatements as statements
use Rattle.js_parser.proofs.CompleteLoops as loops
use Rattle.js_parser.proofs.CompleteGuards as guards
use Rattle.js_parser.proofs.CompleteItems as items
use Rattle.js_parser.proofs.CompleteItems.{module_of, ReadsItem}

-- what is claimed of a tree, by its sort
abbrev Claim : (s : t.Sort) → Tree s → Type 0
Claim t.expression tree = Reads tree
Claim t.key tree = ReadsKey tree
Claim t.member tree = ReadsMember tree
Claim t.function tree = ReadsFunction tree
Claim t.body tree = ReadsBody tree
Claim t.class tree = ReadsClass tree
Claim t.head tree = ReadsHead tree
Claim t.declarator tree = ReadsDeclarator tree
Claim t.case tree = ReadsCase tree
Claim t.statement tree = ReadsStatement tree
Claim t.default tree = ReadsDefault tree
Claim t.item tree = ReadsItem tree
Claim (t.list s) tree = Each (Claim s) tree
Claim (t.option s) tree = Maybe (Claim s) tree

complete : {s : t.Sort} (tree : Tree s) → Claim s tree
complete t.This = operands.reads_this
complete t.Null = operands.reads_null
complete t.True = operands.reads_true
complete t.False = operands.reads_false
complete (t.Name one) = operands.reads_name one
complete (t.Number value) = operands.reads_number value
complete (t.String text) = operands.reads_string text
complete (t.Template texts values) = lists.reads_template texts values (complete values)
complete (t.Array list) = lists.reads_array list (complete list)
complete (t.Object list) = members.reads_object list (complete list)
complete (t.Function function) = functions.reads_function_expression function (complete function)
complete (t.Class class) = classes.reads_class_expression class (complete class)
complete (t.Paren of) = operands.reads_paren of (complete of)
complete (t.Dot of text) = operands.reads_dot of text (complete of)
complete (t.Index of key) = operands.reads_index of key (complete of) (complete key)
complete (t.SuperDot at text) = operands.reads_super_dot at text
complete (t.SuperIndex at key) = operands.reads_super_index at key (complete key)
complete (t.Call of arguments) = lists.reads_call of arguments (complete of) (complete arguments)
complete (t.New of t.absent) = operands.reads_bare_new of (complete of)
complete (t.New of (t.present arguments)) = lists.reads_new_call of arguments (complete of) (complete arguments)
complete (t.SuperCall at arguments) = lists.reads_super_call at arguments (complete arguments)
complete (t.Update at up true of) = operands.reads_update_before at up of (complete of)
complete (t.Update at up false of) = operands.reads_update_behind at up of (complete of)
complete (t.Unary operator of) = operands.reads_unary operator of (complete of)
complete (t.Typeof of) = operands.reads_typeof of (complete of)
complete (t.Void of) = operands.reads_void of (complete of)
complete (t.Delete at of) = operands.reads_delete at of (complete of)
complete (t.Binary operator left right) = operators.reads_binary operator left right (complete left) (complete right)
complete (t.In left right) = operators.reads_in left right (complete left) (complete right)
complete (t.InstanceOf left right) = operators.reads_instance_of left right (complete left) (complete right)
complete (t.And left right) = operators.reads_and left right (complete left) (complete right)
complete (t.Or left right) = operators.reads_or left right (complete left) (complete right)
complete (t.Nullish left right) = operators.reads_nullish left right (complete left) (complete right)
complete (t.Conditional test one other) = operators.reads_conditional test one other (complete test) (complete one) (complete other)
complete (t.Assign at left operator value) = operators.reads_assign at left operator value (complete left) (complete value)
complete (t.Comma left right) = operators.reads_comma left right (complete left) (complete right)
complete (t.KeyWord text) = tt
complete (t.KeyString text) = tt
complete (t.KeyNumber value) = tt
complete (t.KeyComputed key) = complete key
complete (t.MemberOf at fixed kind key value function) = (complete key, complete value, complete function)
complete (t.FunctionOf at own kind parameters body) = complete body
complete (t.BodyStatements list) = complete list
complete (t.BodyExpression value) = complete value
complete (t.ClassOf at own parent list) = (complete parent, complete list)
complete t.HeadNothing = tt
complete (t.HeadValue value) = complete value
complete (t.HeadDeclare constant names) = complete names
complete (t.DeclaratorOf own value) = complete value
complete (t.CaseOf test body) = (complete test, complete body)
complete t.Empty = statements.reads_empty
complete (t.Value value mark) = statements.reads_value value mark (complete value)
complete (t.Declare constant names mark) = loops.reads_declare constant names mark (complete names)
complete (t.FunctionStatement function) = statements.reads_function_statement function (complete function)
complete (t.ClassStatement class) = statements.reads_class_statement class (complete class)
complete (t.Block list) = statements.reads_block list (complete list)
complete (t.If test one t.absent) = statements.reads_if test one (complete test) (complete one)
complete (t.If test one (t.present other)) = statements.reads_if_else test one other (complete test) (complete one) (complete other)
complete (t.For head test each body) = loops.reads_for head test each body (complete head) (complete test) (complete each) (complete body)
complete (t.While test body) = statements.reads_while test body (complete test) (complete body)
complete (t.DoWhile body test mark) = statements.reads_do body test mark (complete body) (complete test)
complete (t.Break at mark) = statements.reads_break at mark
complete (t.Continue at mark) = statements.reads_continue at mark
complete (t.Return at t.absent mark) = statements.reads_bare_return at mark
complete (t.Return at (t.present value) mark) = statements.reads_return at value mark (complete value)
complete (t.Throw value mark) = statements.reads_throw value mark (complete value)
complete (t.Try block caught catch finally) = guards.reads_try block caught catch finally (complete block) (complete catch) (complete finally)
complete (t.Switch value cases) = guards.reads_switch value cases (complete value) (complete cases)
complete (t.DefaultFunction function) = complete function
complete (t.DefaultClass class) = complete class
complete (t.DefaultValue value) = complete value
complete (t.Import other list mark) = items.reads_import other list mark
complete (t.ExportFrom other list mark) = items.reads_export_from other list mark
complete (t.ExportNames list mark) = items.reads_export_names list mark
complete (t.ExportDeclaration (t.Declare constant names mark)) = items.reads_export_declare constant names mark (complete names)
complete (t.ExportDeclaration (t.FunctionStatement function)) = items.reads_export_function function (complete function)
complete (t.ExportDeclaration (t.ClassStatement class)) = items.reads_export_class class (complete class)
complete (t.ExportDeclaration one) = items.reads_no_export one refl
complete (t.ExportDefault at of mark) = items.reads_export_default at of mark (complete of)
complete (t.Plain one) = items.reads_plain one (complete one)
complete t.none = tt
complete (t.more one rest) = (complete one, complete rest)
complete t.absent = tt
complete (t.present one) = complete one

-- items one after the other

items_behind : (list : Tree (t.list t.item)) (from to : Tokens) → sequence (Spells list) from to → Behind true to → Behind true from
unfolding Spells
items_behind t.none from to d h = subst (Behind true) (sym d) h
items_behind (t.more one rest) from to d h = starts_behind from (first_item one from d.0 d.1)

reads_items : (list : Tree (t.list t.item)) → Each ReadsItem list → (sofar : Tree (t.list t.item)) (frames : Frames) (from to : Tokens) → sequence (Spells list) from to → Behind true to →
    run (statement_due (module_of sofar frames)) from ≡ run (statement_due (module_of (appended sofar list) frames)) to
unfolding Spells
reads_items t.none reads sofar frames from to d h = ap (run (statement_due (module_of sofar frames))) d
reads_items (t.more one rest) reads sofar frames from to d h =
    reads.0 from d.0 d.1 (items_behind rest d.0 to d.2 h) sofar frames
    ∙ reads_items rest reads.1 (followed sofar one) frames d.0 to d.2 h

-- a module's tree from its tokens
pub built : (list : Tree (t.list t.item)) (tokens : Tokens) → spells list tokens → run start tokens ≡ state (c.Done (cut list)) []
built list tokens d =
    let end : One (λ token. token.kind ≡ k.End) (d.0 ∷ []) [] = (d.1, refl) in
    ap (λ none. run (statement_due (f.Item (n.Module none) ∷ [])) tokens) cut_none
    ∙ reads_items list (complete list) t.none [] tokens (d.0 ∷ []) d.2 (behind_at k.End refl (d.0 ∷ []) [] end)
    ∙ takes k.End (d.0 ∷ []) [] end (statement_due (module_of (appended t.none list) []))
    ∙ ap (λ items. state (c.Done (cut items)) []) (appended_none list)
