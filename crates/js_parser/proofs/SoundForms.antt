-- What each form of an expression was read from: the grammar's clause, of parts that were read.
use Rattle.std.proofs.Common.{◌≡◌, ◌∙◌, sym, ap, ap₂, subst, refl, ℕ, ◌≤◌, Bool, true, false, List, [], ◌∷◌, ◌++◌, Option, None, true≢false, ℤ}
use Rattle.std.specs.Prelude.{◌&&◌, not, nat_le}
use Rattle.std.proofs.lemmas.Bool.{leb-true}
use Rattle.es_model.specs.declared.kinds.BinaryOperator.{BinaryOperator}
use Rattle.es_model.specs.declared.kinds.FunctionKind.TheVariants as kind
use Rattle.es_model.specs.declared.names.Identifier.{Identifier}
use Rattle.es_model.specs.declared.token.Token.{Token}
use Rattle.es_model.specs.declared.token.TokenKind.TheVariants as k
use Rattle.es_model.specs.Tree as t
use Rattle.es_model.specs.Tree.{Tree, Text}
use Rattle.es_model.specs.Levels.{level, is_target, is_nullish, is_bare_new, has_call, assignment_sign}
use Rattle.es_model.specs.Readings.{Tokens, Reading, word, given, First, the, here, property}
use Rattle.es_model.specs.Spelling.{Spells, step, assigning, separated, piece, are_elements}
use Rattle.parser_forms.specs.declared.parts.Part.{Part}
use Rattle.parser_forms.specs.declared.kinds.Infix.{Infix}
use Rattle.parser_forms.specs.declared.kinds.Infix.TheVariants as i
use Rattle.parser_forms.specs.declared.kinds.Prefix.{Prefix}
use Rattle.parser_forms.specs.declared.kinds.Prefix.TheVariants as prefix
use Rattle.js_parser.specs.Callee.{Callee}
use Rattle.js_parser.specs.Callee as callee
use Rattle.parser_forms.specs.Kept.{Sorted, none, and_then, followed}
use Rattle.js_parser.specs.Cut.{cut}
use Rattle.parser_forms.specs.Parts as p
use Rattle.js_parser.specs.Tables.{right_of}
use Rattle.parser_forms.specs.Asks.{is_left_of, is_base, is_new_callee}
use Rattle.js_parser.specs.Ends.{called}
use Rattle.js_parser.proofs.Laws.{cut_none, cut_and_then}
use Rattle.js_parser.specs.Summary.{part_of}
use Rattle.js_parser.proofs.FormLaws as laws
use Rattle.js_parser.proofs.WordLaws.{infix_sign, prefix_sign}
use Rattle.js_parser.proofs.SoundLists.{grown, commaed_more, commaed_last, commaed_all, pieced_more, pieces_last, members_joined, members_commaed, elements_more}
use Rattle.js_parser.proofs.SoundStates.{Read, ReadOf, ReadElements, ReadPieces, ReadMembers, ReadJoined, ReadBraces, CalleeTaken, ArrowTaken, is_body, next}

pub and_true : (a b : Bool) → (a && b) ≡ true → (a ≡ true) × (b ≡ true)
and_true true true e = (refl, refl)
and_true true false e = absurd (true≢false (sym e))
and_true false b e = absurd (true≢false (sym e))

pub not_true : (b : Bool) → not b ≡ true → b ≡ false
not_true true e = absurd (true≢false (sym e))
not_true false e = refl

-- what is known of a part is so of its tree
leveled : {n : ℕ} (part : Part) (e : Tree t.expression) → part_of part.at e ≡ part → n ≤ part.level → n ≤ level e
leveled {n} part e q h = subst (λ u. n ≤ u.level) (sym q) h

based : (part : Part) (e : Tree t.expression) → part_of part.at e ≡ part → is_base part ≡ true → (17 ≤ level e) × (is_bare_new e ≡ false)
based part e q h =
    let (a, b) = and_true (nat_le 17 (level e)) (not (is_bare_new e)) (subst (λ u. is_base u ≡ true) (sym q) h) in
    (leb-true _ _ a, not_true (is_bare_new e) b)

called_by : (part : Part) (e : Tree t.expression) → part_of part.at e ≡ part → is_new_callee part ≡ true → (17 ≤ level e) × (has_call e ≡ false)
called_by part e q h =
    let (a, b) = and_true (nat_le 17 (level e)) (not (has_call e)) (subst (λ u. is_new_callee u ≡ true) (sym q) h) in
    (leb-true _ _ a, not_true (has_call e) b)

targeted : (part : Part) (e : Tree t.expression) → part_of part.at e ≡ part → part.is_target ≡ true → is_target e ≡ true
targeted part e q h = subst (λ u. u.is_target ≡ true) (sym q) h

pub read_of : (part : Part) (from to : Tokens) → Read part from to → ReadOf part.of from to
read_of part from to (e, q, w, r) = (e, ap (λ u. u.of) q, r)

-- What is one token.

pub read_this : (token : Token) (now : Tokens) → token.kind ≡ word "this" → Read (p.leaf t.This token.at) (token ∷ now) now
unfolding Spells
read_this token now e = (t.This, sym (laws.this_is token.at), refl, (e, refl))

pub read_null : (token : Token) (now : Tokens) → token.kind ≡ word "null" → Read (p.leaf t.Null token.at) (token ∷ now) now
unfolding Spells
read_null token now e = (t.Null, sym (laws.null_is token.at), refl, (e, refl))

pub read_true : (token : Token) (now : Tokens) → token.kind ≡ word "true" → Read (p.leaf t.True token.at) (token ∷ now) now
unfolding Spells
read_true token now e = (t.True, sym (laws.true_is token.at), refl, (e, refl))

pub read_false : (token : Token) (now : Tokens) → token.kind ≡ word "false" → Read (p.leaf t.False token.at) (token ∷ now) now
unfolding Spells
read_false token now e = (t.False, sym (laws.false_is token.at), refl, (e, refl))

pub read_name : (token : Token) (text : Text) (now : Tokens) → token.kind ≡ k.Name text → Read (p.name (record { at = token.at; name = text })) (token ∷ now) now
unfolding Spells
read_name token text now e = (t.Name (record { at = token.at; name = text }), sym (laws.name_is (record { at = token.at; name = text })), refl, ((e, refl), refl))

pub read_number : (token : Token) (number : ℤ) (now : Tokens) → token.kind ≡ k.Number number → Read (p.leaf (t.Number number) token.at) (token ∷ now) now
unfolding Spells
read_number token number now e = (t.Number number, sym (laws.number_is token.at number), refl, (e, refl))

pub read_string : (token : Token) (text : Text) (now : Tokens) → token.kind ≡ k.String text → Read (p.leaf (t.String text) token.at) (token ∷ now) now
unfolding Spells
read_string token text now e = (t.String text, sym (laws.string_is token.at text), refl, (e, refl))

-- Templates.

pub read_plain_template : (token : Token) (text : Text) (now : Tokens) → token.kind ≡ k.Template true true text → Read (p.template token.at (text ∷ []) none) (token ∷ now) now
unfolding Spells
read_plain_template token text now e =
    (t.Template (text ∷ []) t.none, sym (laws.template_is token.at (text ∷ []) t.none) ∙ ap (p.template token.at (text ∷ [])) (sym cut_none), refl, (e, refl))

pub read_pieces : (token : Token) (text : Text) (now : Tokens) → token.kind ≡ k.Template true false text → ReadPieces (text ∷ []) none (token ∷ now) now
unfolding Spells
read_pieces token text now e = (t.none, sym cut_none, (e, refl))

pub read_pieces_more : (texts : List Text) (values : Sorted (t.list t.expression)) (part : Part) (text : Text) (from a b to : Tokens) →
    ReadPieces texts values from a → Read part a b → piece text false false b to → ReadPieces (texts ++ text ∷ []) (and_then values part.of) from to
read_pieces_more texts values part text from a b to (list, q, r) (e, u, w, h) c =
    (followed list e, sym (cut_and_then list e) ∙ ap₂ and_then q (ap (λ v. v.of) u), pieced_more true texts (grown list e) from a b to text r h c)

pub read_template : (at : ℕ) (texts : List Text) (values : Sorted (t.list t.expression)) (part : Part) (text : Text) (from a b to : Tokens) →
    here at (ReadPieces texts values) from a → Read part a b → piece text false true b to → Read (p.template at (texts ++ text ∷ []) (and_then values part.of)) from to
unfolding Spells
read_template at texts values part text from a b to (place, (list, q, r)) (e, u, w, h) c = (
  t.Template (texts ++ text ∷ []) (followed list e),
  sym (laws.template_is at (texts ++ text ∷ []) (followed list e)) ∙ ap (p.template at (texts ++ text ∷ [])) (sym (cut_and_then list e) ∙ ap₂ and_then q (ap (λ v. v.of) u)),
  place,
  pieces_last true texts (grown list e) from a b to text r h c,
)

-- Lists of expressions.

abbrev pub ReadArguments : Sorted (t.list t.expression) → Reading
ReadArguments of from to = (list : Tree (t.list t.expression)) × (cut list ≡ of) × (are_elements list ≡ true) × separated (Spells list) from to

pub read_none : (now : Tokens) → ReadElements none now now
unfolding Spells
read_none now = (t.none, sym cut_none, refl, refl)

pub read_elements : (of : Sorted (t.list t.expression)) (from to : Tokens) → ReadElements of from to → ReadArguments of from to
read_elements of from to (list, q, h, r) = (list, q, h, commaed_all (Spells list) from to r)

pub read_last : (of : Sorted (t.list t.expression)) (part : Part) (from a to : Tokens) → ReadElements of from a → Read part a to → 2 ≤ part.level → ReadArguments (and_then of part.of) from to
read_last of part from a to (list, q, h, r) (e, u, w, s) l =
    (followed list e, sym (cut_and_then list e) ∙ ap₂ and_then q (ap (λ v. v.of) u), elements_more list e h (leveled part e u l), commaed_last (grown list e) from a to r s)

pub read_comma : (of : Sorted (t.list t.expression)) (part : Part) (from a b to : Tokens) → ReadElements of from a → Read part a b → 2 ≤ part.level → the "," b to → ReadElements (and_then of part.of) from to
read_comma of part from a b to (list, q, h, r) (e, u, w, s) l c =
    (followed list e, sym (cut_and_then list e) ∙ ap₂ and_then q (ap (λ v. v.of) u), elements_more list e h (leveled part e u l), commaed_more (grown list e) from a b to r s c)

pub read_array : (at : ℕ) (of : Sorted (t.list t.expression)) (from a b to : Tokens) → here at (the "[") from a → ReadArguments of a b → the "]" b to → Read (p.array at of) from to
unfolding Spells
read_array at of from a b to (place, o) (list, q, h, r) c = (t.Array list, sym (laws.array_is at list) ∙ ap (p.array at) q, place, (a, o, (b, (h, r), c)))

-- Objects.

pub read_object : (at : ℕ) (of : Sorted (t.list t.member)) (from a b to : Tokens) → here at (the "{") from a → ReadMembers of a b → the "}" b to → Read (p.object at of) from to
unfolding Spells
read_object at of from a b to (place, o) (list, q, r) c =
    (t.Object list, sym (laws.object_is at list) ∙ ap (p.object at) q, place, (a, o, (b, members_commaed (Spells list) a b r, c)))

pub read_joined_object : (at : ℕ) (of : Sorted (t.list t.member)) (from a b to : Tokens) → here at (the "{") from a → ReadJoined of a b → the "}" b to → Read (p.object at of) from to
unfolding Spells
read_joined_object at of from a b to (place, o) (list, q, r) c =
    (t.Object list, sym (laws.object_is at list) ∙ ap (p.object at) q, place, (a, o, (b, members_joined (Spells list) a b r, c)))

-- Parentheses, member forms and calls.

pub read_paren : (at : ℕ) (part : Part) (from a b to : Tokens) → here at (the "(") from a → Read part a b → the ")" b to → Read (p.paren at part) from to
unfolding Spells
read_paren at part from a b to (place, o) (e, q, w, r) c = (t.Paren e, sym (laws.paren_is at part.at e) ∙ ap (p.paren at) q, place, (a, o, (b, r, c)))

pub read_dot : (part : Part) (text : Text) (from a b to : Tokens) → given (is_base part ≡ true) (Read part) from a → the "." a b → property text b to → Read (p.dot part text) from to
unfolding Spells
read_dot part text from a b to (h, (e, q, w, r)) o c =
    (t.Dot e text, sym (laws.dot_is part.at e text) ∙ ap (λ u. p.dot u text) q, w, (a, (based part e q h, r), (b, o, c)))

pub read_index : (part key : Part) (from a b c to : Tokens) → given (is_base part ≡ true) (Read part) from a → the "[" a b → Read key b c → the "]" c to → Read (p.index part key) from to
unfolding Spells
read_index part key from a b c to (h, (e, q, w, r)) o (n, u, v, s) z =
    (t.Index e n, sym (laws.index_is part.at key.at e n) ∙ ap₂ p.index q u, w, (a, (based part e q h, r), (b, o, (c, s, z))))

pub read_super_dot : (at : ℕ) (text : Text) (from a b to : Tokens) → here at (the "super") from a → the "." a b → property text b to → Read (p.super_dot at text) from to
unfolding Spells
read_super_dot at text from a b to (place, o) d c = (t.SuperDot at text, sym (laws.super_dot_is at text), place, (place, (a, o, (b, d, c))))

pub read_super_index : (at : ℕ) (key : Part) (from a b c to : Tokens) → here at (the "super") from a → the "[" a b → Read key b c → the "]" c to → Read (p.super_index at key) from to
unfolding Spells
read_super_index at key from a b c to (place, o) d (e, q, w, r) z =
    (t.SuperIndex at e, sym (laws.super_index_is at key.at e) ∙ ap (p.super_index at) q, place, (place, (a, o, (b, d, (c, r, z)))))

pub read_called : (of : Callee) (list : Sorted (t.list t.expression)) (from a b c to : Tokens) → CalleeTaken of from a → the "(" a b → ReadArguments list b c → the ")" c to → Read (called of list) from to
unfolding Spells
read_called (callee.Call part) list from a b c to (h, (e, q, w, r)) o (es, u, g, s) z =
    (t.Call e es, sym (laws.call_is part.at e es) ∙ ap₂ p.call q u, w, (a, (based part e q h, r), (b, o, (c, (g, s), z))))
read_called (callee.New at part) list from a b c to (d, (place, n), ((h, l), (e, q, w, r))) o (es, u, g, s) z = (
  t.New e (t.present es),
  sym (laws.new_call_is at part.at e es) ∙ ap₂ (p.new_call at) q u,
  place,
  (d, n, (a, ((based part e q l).1, (called_by part e q h, r)), (b, o, (c, (g, s), z)))),
)
read_called (callee.Super at) list from a b c to (place, n) o (es, u, g, s) z =
    (t.SuperCall at es, sym (laws.super_call_is at es) ∙ ap (p.super_call at) u, place, (place, (a, n, (b, o, (c, (g, s), z)))))

pub read_bare_new : (at : ℕ) (part : Part) (from a to : Tokens) → here at (the "new") from a → Read part a to → is_new_callee part ≡ true → Read (p.bare_new at part) from to
unfolding Spells
read_bare_new at part from a to (place, n) (e, q, w, r) h =
    (t.New e t.absent, sym (laws.bare_new_is at part.at e) ∙ ap (p.bare_new at) q, place, (a, n, (called_by part e q h, r)))

-- Operators.

pub read_update_before : (at : ℕ) (up : Bool) (part : Part) (from a to : Tokens) → here at (step up) from a → Read part a to → part.is_target ≡ true → Read (p.update_before at up part) from to
unfolding Spells
read_update_before at up part from a to (place, o) (e, q, w, r) h =
    (t.Update at up true e, sym (laws.update_before_is at part.at up e) ∙ ap (p.update_before at up) q, place, (place, (a, o, (targeted part e q h, r))))

pub read_update_behind : (up : Bool) (part : Part) (from a to : Tokens) → Read part from a → part.is_target ≡ true → First (λ token. token.line_before ≡ false) a → step up a to → Read (p.update_behind up part) from to
unfolding Spells
read_update_behind up part from a to (e, q, w, r) h line o =
    (t.Update part.at up false e, sym (laws.update_behind_is part.at up e) ∙ ap (p.update_behind up) q, w, (w, (a, (targeted part e q h, r), (line, o))))

pub read_prefix : (operator : Prefix) (at : ℕ) (part : Part) (from a to : Tokens) → here at (the (prefix_sign operator)) from a → Read part a to → 15 ≤ part.level → Read (p.prefix_form operator at part) from to
unfolding Spells
read_prefix (prefix.Unary operator) at part from a to (place, o) (e, q, w, r) h =
    (t.Unary operator e, sym (laws.unary_is operator at part.at e) ∙ ap (p.prefix_form (prefix.Unary operator) at) q, place, (a, o, (leveled part e q h, r)))
read_prefix prefix.Typeof at part from a to (place, o) (e, q, w, r) h =
    (t.Typeof e, sym (laws.typeof_is at part.at e) ∙ ap (p.prefix_form prefix.Typeof at) q, place, (a, o, (leveled part e q h, r)))
read_prefix prefix.Void at part from a to (place, o) (e, q, w, r) h =
    (t.Void e, sym (laws.void_is at part.at e) ∙ ap (p.prefix_form prefix.Void at) q, place, (a, o, (leveled part e q h, r)))
read_prefix prefix.Delete at part from a to (place, o) (e, q, w, r) h =
    (t.Delete at e, sym (laws.delete_is at part.at e) ∙ ap (p.prefix_form prefix.Delete at) q, place, (place, (a, o, (leveled part e q h, r))))

pub read_infix : (operator : Infix) (left right : Part) (from a b to : Tokens) → given (is_left_of operator left ≡ true) (Read left) from a → the (infix_sign operator) a b → Read right b to → right_of operator ≤ right.level →
    Read (p.operation operator left right) from to
unfolding Spells
read_infix (i.Binary operator) left right from a b to (g, (l, q, w, r)) o (e, u, v, s) h =
    (t.Binary operator l e, sym (laws.binary_is operator left.at right.at l e) ∙ ap₂ (p.operation (i.Binary operator)) q u, w, (a, (leveled left l q (leb-true _ _ g), r), (b, o, (leveled right e u h, s))))
read_infix i.In left right from a b to (g, (l, q, w, r)) o (e, u, v, s) h =
    (t.In l e, sym (laws.in_is left.at right.at l e) ∙ ap₂ (p.operation i.In) q u, w, (a, (leveled left l q (leb-true _ _ g), r), (b, o, (leveled right e u h, s))))
read_infix i.InstanceOf left right from a b to (g, (l, q, w, r)) o (e, u, v, s) h =
    (t.InstanceOf l e, sym (laws.instance_of_is left.at right.at l e) ∙ ap₂ (p.operation i.InstanceOf) q u, w, (a, (leveled left l q (leb-true _ _ g), r), (b, o, (leveled right e u h, s))))
read_infix i.And left right from a b to (g, (l, q, w, r)) o (e, u, v, s) h =
    (t.And l e, sym (laws.and_is left.at right.at l e) ∙ ap₂ (p.operation i.And) q u, w, (a, (leveled left l q (leb-true _ _ g), r), (b, o, (leveled right e u h, s))))
read_infix i.Or left right from a b to (g, (l, q, w, r)) o (e, u, v, s) h =
    let (x, y) = and_true (nat_le 4 (level l)) (not (is_nullish l)) (subst (λ z. is_left_of i.Or z ≡ true) (sym q) g) in
    (t.Or l e, sym (laws.or_is left.at right.at l e) ∙ ap₂ (p.operation i.Or) q u, w, (a, (not_true (is_nullish l) y, (leb-true _ _ x, r)), (b, o, (leveled right e u h, s))))
read_infix i.Nullish left right from a b to (g, (l, q, w, r)) o (e, u, v, s) h =
    (t.Nullish l e, sym (laws.nullish_is left.at right.at l e) ∙ ap₂ (p.operation i.Nullish) q u, w, (a, (subst (λ z. is_left_of i.Nullish z ≡ true) (sym q) g, r), (b, o, (leveled right e u h, s))))
read_infix i.Comma left right from a b to (g, (l, q, w, r)) o (e, u, v, s) h =
    (t.Comma l e, sym (laws.comma_is left.at right.at l e) ∙ ap₂ (p.operation i.Comma) q u, w, (a, r, (b, o, (leveled right e u h, s))))

pub read_conditional : (test one other : Part) (from a b c d to : Tokens) → given (4 ≤ test.level) (Read test) from a → the "?" a b → given (2 ≤ one.level) (Read one) b c → the ":" c d → Read other d to → 2 ≤ other.level →
    Read (p.conditional test one other) from to
unfolding Spells
read_conditional test one other from a b c d to (g, (l, q, w, r)) o (h, (m, u, v, s)) z (n, x, y, f) j = (
  t.Conditional l m n,
  sym (laws.conditional_is test.at one.at other.at l m n) ∙ ap (p.conditional (part_of test.at l) (part_of one.at m)) x ∙ ap₂ (λ first second. p.conditional first second other) q u,
  w,
  (a, (leveled test l q g, r), (b, o, (c, (leveled one m u h, s), (d, z, (leveled other n x j, f))))),
)

pub read_assign : (left : Part) (operator : Option BinaryOperator) (right : Part) (from a b to : Tokens) → given (left.is_target ≡ true) (Read left) from a → assigning (assignment_sign operator) a b → Read right b to → 2 ≤ right.level →
    Read (p.assign left operator right) from to
unfolding Spells
read_assign left operator right from a b to (g, (l, q, w, r)) o (e, u, v, s) h = (
  t.Assign left.at l operator e,
  sym (laws.assign_is left.at right.at l operator e) ∙ ap₂ (λ one two. p.assign one operator two) q u,
  w,
  (w, (a, (targeted left l q g, r), (b, o, (leveled right e u h, s)))),
)

-- Arrows.

pub read_arrow : (at : ℕ) (list : List Identifier) (part : Part) (from a to : Tokens) → next is_body (ArrowTaken at list) from a → Read part a to → 2 ≤ part.level → Read (p.arrow at list part) from to
unfolding Spells
read_arrow at list part from a to ((place, (m, names, arrow)), test) (e, q, w, r) h = (
  t.Function (t.FunctionOf at None kind.Arrow list (t.BodyExpression e)),
  sym (laws.arrow_is at part.at list e) ∙ ap (p.arrow at list) q,
  place,
  (place, (m, names, (a, arrow, (refl, (test, (leveled part e q h, r)))))),
)

pub read_arrow_statements : (at : ℕ) (list : List Identifier) (body : Sorted (t.list t.statement)) (from a to : Tokens) → ArrowTaken at list from a → ReadBraces body a to →
    Read (p.arrow_expression at (p.function at None kind.Arrow list body)) from to
unfolding Spells
read_arrow_statements at list body from a to (place, (m, names, arrow)) (d, (c, brace, (tree, q, r)), close) = (
  t.Function (t.FunctionOf at None kind.Arrow list (t.BodyStatements tree)),
  sym (laws.arrow_statements_is at at list tree) ∙ ap (λ u. p.arrow_expression at (p.function at None kind.Arrow list u)) q,
  place,
  (place, (m, names, (a, arrow, (c, brace, (d, r, close))))),
)
