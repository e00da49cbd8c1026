-- Trees, and tokens, that the grammar refuses.
use Rattle.std.proofs.Common.{◌≡◌, ℕ, Bool, true, false, List, [], ◌∷◌, codes, pos, Some, None, inl, inr, sym, subst, arith}
use Rattle.es_model.specs.declared.kinds.Semi.{Semi}
use Rattle.es_model.specs.declared.kinds.Semi.TheVariants as semi
use Rattle.es_model.specs.declared.kinds.FunctionKind.TheVariants as f
use Rattle.es_model.specs.declared.kinds.MemberKind.TheVariants as m
use Rattle.es_model.specs.declared.kinds.BinaryOperator.TheVariants as b
use Rattle.es_model.specs.declared.kinds.UnaryOperator.TheVariants as u
use Rattle.es_model.specs.declared.names.Identifier.{Identifier}
use Rattle.es_model.specs.declared.names.Pair.{Pair}
use Rattle.es_model.specs.declared.token.TokenKind.{TokenKind}
use Rattle.es_model.specs.declared.token.TokenKind.TheVariants as k
use Rattle.es_model.specs.Tree as t
use Rattle.es_model.specs.Tree.{Tree}
use Rattle.es_model.specs.Levels.{InObject, InClass}
use Rattle.es_model.specs.Readings.{Tokens, First, ◌▸◌, word, the, the_name, same_line, semicolon, may_miss, may_miss_bare}
use Rattle.es_model.specs.Spelling.{Spells, spells, member_parameters, imported, import_list, module_name}
use Rattle.es_model.proofs.ModuleLaws.{signs_pair_off}
use Rattle.es_model.proofs.Rows.{token, lined}

-- `-2 ** 2`
power_of_a_sign : (x y : Tree t.expression) (from to : Tokens) → Spells (t.Binary b.Power (t.Unary u.Negate x) y) from to → ⊥
unfolding Spells
power_of_a_sign x y from to h = omega (arith, h.1.0)

-- `a || c ?? d`
or_in_nullish : (a c d : Tree t.expression) (from to : Tokens) → Spells (t.Nullish (t.Or a c) d) from to → ⊥
unfolding Spells
or_in_nullish a c d from to h = cc (h.1.0)

-- `a ?? c || d`, grouped to the left
nullish_in_or : (a c d : Tree t.expression) (from to : Tokens) → Spells (t.Or (t.Nullish a c) d) from to → ⊥
unfolding Spells
nullish_in_or a c d from to h = cc (h.1.0)

-- `a && c ?? d`
and_in_nullish : (a c d : Tree t.expression) (from to : Tokens) → Spells (t.Nullish (t.And a c) d) from to → ⊥
unfolding Spells
and_in_nullish a c d from to h = cc (h.1.0)

-- `a ?? c && d`
and_behind_nullish : (a c d : Tree t.expression) (from to : Tokens) → Spells (t.Nullish a (t.And c d)) from to → ⊥
unfolding Spells
and_behind_nullish a c d from to h = omega (arith, h.2.2.0)

-- a comma form as an argument
comma_as_argument : (callee a c : Tree t.expression) (from to : Tokens) → Spells (t.Call callee (t.more (t.Comma a c) t.none)) from to → ⊥
unfolding Spells
comma_as_argument callee a c from to h = cc (h.2.2.1.0)

-- `new a` as a callee: `new a()` has arguments
bare_new_called : (a : Tree t.expression) (list : Tree (t.list t.expression)) (from to : Tokens) → Spells (t.Call (t.New a t.absent) list) from to → ⊥
unfolding Spells
bare_new_called a list from to h = cc (h.1.0.1)

-- a call as the callee of `new`
call_as_new_callee : (a : Tree t.expression) (list : Tree (t.list t.expression)) (from to : Tokens) → Spells (t.New (t.Call a list) t.absent) from to → ⊥
unfolding Spells
call_as_new_callee a list from to h = cc (h.2.0.1)

-- an assignment to a call
call_assigned : (at : ℕ) (a value : Tree t.expression) (list : Tree (t.list t.expression)) (from to : Tokens) → Spells (t.Assign at (t.Call a list) None value) from to → ⊥
unfolding Spells
call_assigned at a value list from to h = cc (h.1.1.0)

-- `if (a) if (c) x else y` with the else at the first if
short_if_before_else : (a c : Tree t.expression) (x y : Tree t.statement) (from to : Tokens) → Spells (t.If a (t.If c x t.absent) (t.present y)) from to → ⊥
unfolding Spells
short_if_before_else a c x y from to h = cc (h.2.2.2.2.1.0)

-- a declaration as the body of a loop
declaration_in_loop : (a : Tree t.expression) (names : Tree (t.list t.declarator)) (mark : Semi) (from to : Tokens) → Spells (t.While a (t.Declare false names mark)) from to → ⊥
unfolding Spells
declaration_in_loop a names mark from to h = cc (h.2.2.2.2.0)

-- `const a;`
const_without_value : (a : Identifier) (mark : Semi) (from to : Tokens) → Spells (t.Declare true (t.more (t.DeclaratorOf a t.absent) t.none) mark) from to → ⊥
unfolding Spells
const_without_value a mark from to h = cc (h.0)

-- a try with neither catch nor finally
bare_try : (block : Tree (t.list t.statement)) (from to : Tokens) → Spells (t.Try block None t.absent t.absent) from to → ⊥
unfolding Spells
bare_try block from to h = h.0

-- two defaults in a switch
two_defaults : (a : Tree t.expression) (x y : Tree (t.list t.statement)) (from to : Tokens) → Spells (t.Switch a (t.more (t.CaseOf t.absent x) (t.more (t.CaseOf t.absent y) t.none))) from to → ⊥
unfolding Spells
two_defaults a x y from to h = omega (arith, h.0)

-- an expression statement that begins with `{`
braced_value : (a : Tree t.expression) (mark : Semi) (rest to : Tokens) → Spells (t.Value a mark) (token (k.Sign 0) 0 ∷ rest) to → ⊥
unfolding Spells word
braced_value a mark rest to h = cc (h.1.0)

-- a missing semicolon before `(` on the next line, and before a name on the same line
missing_before_parenthesis : (rest to : Tokens) → semicolon may_miss semi.Missing (lined (k.Sign 2) 0 ∷ rest) to → ⊥
unfolding word
missing_before_parenthesis rest to h = let e : may_miss (lined (k.Sign 2) 0) ≡ true = subst (First (λ one. may_miss one ≡ true)) (sym h.0) h.1 in cc e

missing_on_one_line : (name : List ℕ) (rest to : Tokens) → semicolon may_miss_bare semi.Missing (token (k.Name name) 0 ∷ rest) to → ⊥
unfolding word
missing_on_one_line name rest to h = let e : may_miss_bare (token (k.Name name) 0) ≡ true = subst (First (λ one. may_miss_bare one ≡ true)) (sym h.0) h.1 in cc e

-- `=>` after a line break
arrow_after_line : (rest to : Tokens) → same_line (the "=>") (lined (k.Sign 51) 0 ∷ rest) to → ⊥
arrow_after_line rest to h = cc (h.0)

-- a comma form as an element of an array, and as a branch
comma_as_element : (a c : Tree t.expression) (from to : Tokens) → Spells (t.Array (t.more (t.Comma a c) t.none)) from to → ⊥
unfolding Spells
comma_as_element a c from to h = cc (h.2.1.0)

comma_as_branch : (a c d e : Tree t.expression) (from to : Tokens) → Spells (t.Conditional a (t.Comma c d) e) from to → ⊥
unfolding Spells
comma_as_branch a c d e from to h = omega (arith, h.2.2.1.0)

-- `a ? b : c ? d : e` grouped to the left
conditional_as_test : (a c d e g : Tree t.expression) (from to : Tokens) → Spells (t.Conditional (t.Conditional a c d) e g) from to → ⊥
unfolding Spells
conditional_as_test a c d e g from to h = omega (arith, h.1.0)

-- `{static a}` as an object literal
fixed_member_in_object : (at : ℕ) (name : List ℕ) (from to : Tokens) → Spells (t.Object (t.more (t.MemberOf at true m.Short (t.KeyWord name) t.absent t.absent) t.none)) from to → ⊥
unfolding Spells
fixed_member_in_object at name from to h = h.2.1.1.1

-- `a: b` as a member of a class
value_in_class : (at : ℕ) (derived : Bool) (key : Tree t.key) (a : Tree t.expression) (from to : Tokens) → Spells (t.MemberOf at false m.Value key (t.present a) t.absent) (InClass derived) from to → ⊥
unfolding Spells
value_in_class at derived key a from to h = h.1

-- a template whose last piece is missing
template_without_last : (text : List ℕ) (a : Tree t.expression) (from to : Tokens) → Spells (t.Template (text ∷ []) (t.more a t.none)) from to → ⊥
unfolding Spells
template_without_last text a from to h = h.2.2

-- a getter with a parameter, and a setter without one
getter_with_parameter : (at : ℕ) (key : Tree t.key) (a : Identifier) (body : Tree t.body) (from to : Tokens) → Spells (t.MemberOf at false m.Getter key t.absent (t.present (t.FunctionOf at None f.Getter (a ∷ []) body))) InObject from to → ⊥
unfolding Spells
getter_with_parameter at key a body from to h = h.1.1.1.2.2.2.1.2.1

setter_without_parameter : (at : ℕ) (key : Tree t.key) (body : Tree t.body) (from to : Tokens) → Spells (t.MemberOf at false m.Setter key t.absent (t.present (t.FunctionOf at None f.Setter [] body))) InObject from to → ⊥
unfolding Spells
setter_without_parameter at key body from to h = h.1.1.1.2.2.2.1.2.1

-- a class and a function without a name as statements
nameless_class : (at : ℕ) (members : Tree (t.list t.member)) (from to : Tokens) → Spells (t.ClassStatement (t.ClassOf at None t.absent members)) from to → ⊥
unfolding Spells
nameless_class at members from to h = h.1.2.1

nameless_function : (at : ℕ) (parameters : List Identifier) (body : Tree t.body) (from to : Tokens) → Spells (t.FunctionStatement (t.FunctionOf at None f.Plain parameters body)) from to → ⊥
unfolding Spells
nameless_function at parameters body from to h = h

-- `++a()`
call_updated : (at : ℕ) (a : Tree t.expression) (list : Tree (t.list t.expression)) (from to : Tokens) → Spells (t.Update at true true (t.Call a list)) from to → ⊥
unfolding Spells
call_updated at a list from to h = cc (h.1.2.0)

-- an assignment with the operator `<`
comparison_assigned : (at : ℕ) (target value : Tree t.expression) (from to : Tokens) → Spells (t.Assign at target (Some b.Less) value) from to → ⊥
unfolding Spells
comparison_assigned at target value from to h = h.1.2.1

-- `for (const a;;) ;`
const_in_head : (a : Identifier) (from to : Tokens) → Spells (t.For (t.HeadDeclare true (t.more (t.DeclaratorOf a t.absent) t.none)) t.absent t.absent t.Empty) from to → ⊥
unfolding Spells
const_in_head a from to h = cc (h.2.2.1.0)

-- `for (const a = 1, b;;) ;`
second_const_in_head : (a b : Identifier) (value : Tree t.expression) (from to : Tokens) → Spells (t.For (t.HeadDeclare true (t.more (t.DeclaratorOf a (t.present value)) (t.more (t.DeclaratorOf b t.absent) t.none))) t.absent t.absent t.Empty) from to → ⊥
unfolding Spells
second_const_in_head a b value from to h = cc (h.2.2.1.0)

-- a declaration as the body of a `for`, of a `do`, of an `if`, and behind `else`
declaration_in_for : (names : Tree (t.list t.declarator)) (mark : Semi) (from to : Tokens) → Spells (t.For t.HeadNothing t.absent t.absent (t.Declare false names mark)) from to → ⊥
unfolding Spells
declaration_in_for names mark from to h = cc (h.2.2.2.2.2.2.2.2.0)

declaration_in_do : (a : Tree t.expression) (names : Tree (t.list t.declarator)) (mark other : Semi) (from to : Tokens) → Spells (t.DoWhile (t.Declare false names mark) a other) from to → ⊥
unfolding Spells
declaration_in_do a names mark other from to h = cc (h.2.1.0)

function_in_if : (a : Tree t.expression) (function : Tree t.function) (from to : Tokens) → Spells (t.If a (t.FunctionStatement function) t.absent) from to → ⊥
unfolding Spells
function_in_if a function from to h = cc (h.2.2.2.2.0)

function_before_else : (a : Tree t.expression) (function : Tree t.function) (x : Tree t.statement) (from to : Tokens) → Spells (t.If a (t.FunctionStatement function) (t.present x)) from to → ⊥
unfolding Spells
function_before_else a function x from to h = cc (h.2.2.2.2.1.1.0)

class_behind_else : (a : Tree t.expression) (x : Tree t.statement) (class : Tree t.class) (from to : Tokens) → Spells (t.If a x (t.present (t.ClassStatement class))) from to → ⊥
unfolding Spells
class_behind_else a x class from to h = cc (h.2.2.2.2.2.2.0)

-- `[a, c]` as a computed key
comma_in_key : (a c : Tree t.expression) (from to : Tokens) → Spells (t.KeyComputed (t.Comma a c)) from to → ⊥
unfolding Spells
comma_in_key a c from to h = omega (arith, h.2.1.0)

-- a comma behind a setter's parameter
setter_with_comma : (b : Identifier) (text : List ℕ) (rest to : Tokens) → (member_parameters m.Setter (b ∷ []) ▸ the ")") (token (k.Name text) 7 ∷ token (k.Sign 7) 8 ∷ rest) to → ⊥
unfolding word
setter_with_comma b text rest to h = let e = subst (λ mid. the ")" mid to) (sym h.1.1) h.2 in cc (e.0)

-- `{default}` in an import, without `as`
default_imported : (one : Pair) (rest to : Tokens) → imported one (token (k.Keyword 8) 8 ∷ token (k.Sign 1) 15 ∷ rest) to → ⊥
unfolding word
default_imported one rest to (inl h) = cc (h.1.0.0)
default_imported one rest to (inr (mid, inl h, behind)) = cc (h.0.0)
default_imported one rest to (inr (mid, inr h, behind)) = let e = subst (λ from. the_name "as" from behind.0) (sym h.1.1.1) behind.1 in cc (e.0)

-- a line break after `throw`
throw_before_line : (value : Tree t.expression) (mark : Semi) (kind : TokenKind) (rest to : Tokens) → Spells (t.Throw value mark) (token (k.Keyword 37) 0 ∷ lined kind 6 ∷ rest) to → ⊥
unfolding Spells
throw_before_line value mark kind rest to h = let e : true ≡ false = subst (First (λ one. one.line_before ≡ false)) (sym h.1.1) h.2.1.0 in cc e

-- a line break between `return` and its value
return_before_line : (value : Tree t.expression) (mark : Semi) (kind : TokenKind) (rest to : Tokens) → Spells (t.Return 0 (t.present value) mark) (token (k.Keyword 32) 0 ∷ lined kind 7 ∷ rest) to → ⊥
unfolding Spells
return_before_line value mark kind rest to h = let e : true ≡ false = subst (First (λ one. one.line_before ≡ false)) (sym h.1.1.1) h.1.2.1.0 in cc e

-- `default;` as a case, with no colon
default_without_colon : (body : Tree (t.list t.statement)) (rest to : Tokens) → Spells (t.CaseOf t.absent body) (token (k.Keyword 8) 0 ∷ token (k.Sign 6) 7 ∷ rest) to → ⊥
unfolding Spells word
default_without_colon body rest to h = let e = subst (λ mid. the ":" mid h.2.0) (sym h.1.1) h.2.1 in cc (e.0)

-- `export a;`
value_exported : (a : Tree t.expression) (mark : Semi) (from to : Tokens) → Spells (t.ExportDeclaration (t.Value a mark)) from to → ⊥
unfolding Spells
value_exported a mark from to h = cc (h.2.0)

-- a semicolon as a part of a default export of a function
default_function_marked : (at : ℕ) (function : Tree t.function) (from to : Tokens) → Spells (t.ExportDefault at (t.DefaultFunction function) semi.Written) from to → ⊥
unfolding Spells
default_function_marked at function from to h = cc (h.2.1.2.0)

-- `import;`
no_names_before_semicolon : (list : List Pair) (rest to : Tokens) → import_list list (token (k.Sign 6) 6 ∷ rest) to → (token (k.Sign 6) 6 ∷ rest) ≡ to
unfolding word
no_names_before_semicolon list rest to (inl h) = h.1
no_names_before_semicolon list rest to (inr (mid, inl h, from)) = absurd (cc (h.1.0))
no_names_before_semicolon [] rest to (inr (mid, inr h, from)) = absurd h
no_names_before_semicolon (one ∷ []) rest to (inr (mid, inr h, from)) = absurd (cc (h.1.1.0.0))
no_names_before_semicolon (one ∷ (two ∷ list)) rest to (inr (mid, inr h, from)) = absurd (cc (h.1.1.0.0))

import_without_module : (name : List ℕ) (list : List Pair) (mark : Semi) (rest to : Tokens) → Spells (t.Import name list mark) (token (k.Keyword 21) 0 ∷ token (k.Sign 6) 6 ∷ rest) to → ⊥
unfolding Spells
import_without_module name list mark rest to h =
    let names = subst (λ from. import_list list from h.2.0) (sym h.1.1) h.2.1 in
    let e = subst (λ from. module_name name from h.2.2.0) (sym (no_names_before_semicolon list rest h.2.0 names)) h.2.2.1 in
    cc (e.0)

-- `(1` is no module, whatever the tree: its one sign is an opening one
pub open_parenthesis : (items : Tree (t.list t.item)) → spells items (token (k.Sign 2) 0 ∷ token (k.Number (pos 1)) 1 ∷ token k.End 2 ∷ []) → ⊥
unfolding word
open_parenthesis items h = let e = signs_pair_off items (token (k.Sign 2) 0 ∷ token (k.Number (pos 1)) 1 ∷ token k.End 2 ∷ []) h in cc e

-- `[1`
open_bracket : (items : Tree (t.list t.item)) → spells items (token (k.Sign 4) 0 ∷ token (k.Number (pos 1)) 1 ∷ token k.End 2 ∷ []) → ⊥
unfolding word
open_bracket items h = let e = signs_pair_off items _ h in cc e

-- `{a`
open_brace : (items : Tree (t.list t.item)) → spells items (token (k.Sign 0) 0 ∷ token (k.Name (codes "a")) 1 ∷ token k.End 2 ∷ []) → ⊥
unfolding word
open_brace items h = let e = signs_pair_off items _ h in cc e

-- `if (a`
open_test : (items : Tree (t.list t.item)) → spells items (token (k.Keyword 19) 0 ∷ token (k.Sign 2) 3 ∷ token (k.Name (codes "a")) 4 ∷ token k.End 5 ∷ []) → ⊥
unfolding word
open_test items h = let e = signs_pair_off items _ h in cc e

-- `for (;;`
open_head : (items : Tree (t.list t.item)) → spells items (token (k.Keyword 17) 0 ∷ token (k.Sign 2) 4 ∷ token (k.Sign 6) 5 ∷ token (k.Sign 6) 6 ∷ token k.End 7 ∷ []) → ⊥
unfolding word
open_head items h = let e = signs_pair_off items _ h in cc e

-- `switch (a) { case 1:`
open_cases : (items : Tree (t.list t.item)) → spells items (token (k.Keyword 35) 0 ∷ token (k.Sign 2) 7 ∷ token (k.Name (codes "a")) 8 ∷ token (k.Sign 3) 9 ∷ token (k.Sign 0) 11 ∷ token (k.Keyword 2) 13 ∷ token (k.Number (pos 1)) 18 ∷ token (k.Sign 37) 19 ∷ token k.End 20 ∷ []) → ⊥
unfolding word
open_cases items h = let e = signs_pair_off items _ h in cc e

-- `import {a from "m"`
open_import : (items : Tree (t.list t.item)) → spells items (token (k.Keyword 21) 0 ∷ token (k.Sign 0) 7 ∷ token (k.Name (codes "a")) 8 ∷ token (k.Name (codes "from")) 10 ∷ token (k.String (codes "m")) 15 ∷ token k.End 18 ∷ []) → ⊥
unfolding word
open_import items h = let e = signs_pair_off items _ h in cc e

-- `export {a`
open_export : (items : Tree (t.list t.item)) → spells items (token (k.Keyword 13) 0 ∷ token (k.Sign 0) 7 ∷ token (k.Name (codes "a")) 8 ∷ token k.End 9 ∷ []) → ⊥
unfolding word
open_export items h = let e = signs_pair_off items _ h in cc e

-- `a)`
closing_parenthesis : (items : Tree (t.list t.item)) → spells items (token (k.Name (codes "a")) 0 ∷ token (k.Sign 3) 1 ∷ token k.End 2 ∷ []) → ⊥
unfolding word
closing_parenthesis items h = let e = signs_pair_off items _ h in cc e
