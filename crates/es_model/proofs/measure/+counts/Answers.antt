use Rattle.std.proofs.Common.{◌≡◌, true, false, ap, map, sym, refl, ◌∙◌, arith}
use Rattle.std.specs.List.{list_any}
use Rattle.std.proofs.lemmas.List.{take_all}
use Rattle.es_model.specs.Tree.{listed, tree_size}
use Rattle.es_model.specs.Functions.{is_constructor, writes_constructor}
use Rattle.es_model.specs.Counted.{counted}
use Rattle.es_model.specs.View.{optional, optional_list, member_of, key_of, head_of, declarator_of, case_of}
use Rattle.es_model.proofs.Counts.{counted_taken, counted_mapped, element_smaller, mapped_smaller, writes_constructor_listed}
use Rattle.es_model.proofs.measure.+counts.Goals as goal

pub of_expressions-of_expression-requires : goal.of_expressions-of_expression-requires
of_expressions-of_expression-requires t c = (omega (arith, c.decreases, ap tree_size c.expression-item.is, element_smaller c.args.expressions.now c.loop-expression.expression-index c.expression-item.result c.loop-expression-test.true), tt)

pub of_expressions-loop-expression-preserved : goal.of_expressions-loop-expression-preserved
of_expressions-loop-expression-preserved t c = rw (c.beside-counts.ensures, c.of_expression.ensures, c.loop-expression.invariant) (sym (counted_taken c.args.expressions.now c.loop-expression.expression-index c.expression-item.result c.expression-item.is c.loop-expression-test.true))

pub of_statements-of_statement-requires : goal.of_statements-of_statement-requires
of_statements-of_statement-requires t c = (omega (arith, c.decreases, ap tree_size c.statement-item.is, element_smaller c.args.statements.now c.loop-statement.statement-index c.statement-item.result c.loop-statement-test.true), tt)

pub of_statements-loop-statement-preserved : goal.of_statements-loop-statement-preserved
of_statements-loop-statement-preserved t c = rw (c.beside-counts.ensures, c.of_statement.ensures, c.loop-statement.invariant) (sym (counted_taken c.args.statements.now c.loop-statement.statement-index c.statement-item.result c.statement-item.is c.loop-statement-test.true))

pub of_members-of_member-requires : goal.of_members-of_member-requires
of_members-of_member-requires t c = (omega (arith, c.decreases, ap (λ m. tree_size (member_of m)) c.member-item.is, mapped_smaller member_of c.args.members.now c.loop-member.member-index c.member-item.result c.loop-member-test.true), tt)

pub of_members-loop-member-preserved : goal.of_members-loop-member-preserved
of_members-loop-member-preserved t c = rw (c.beside-counts.ensures, c.of_member.ensures, c.loop-member.invariant) (sym (counted_mapped member_of c.args.members.now c.loop-member.member-index c.member-item.result c.member-item.is c.loop-member-test.true))

pub of_declarators-of_optional-requires : goal.of_declarators-of_optional-requires
of_declarators-of_optional-requires t c = (omega (arith, c.decreases, ap (λ m. tree_size (declarator_of m)) c.name-item.is, mapped_smaller declarator_of c.args.names.now c.loop-name.name-index c.name-item.result c.loop-name-test.true), tt)

pub of_declarators-loop-name-preserved : goal.of_declarators-loop-name-preserved
unfolding counted
of_declarators-loop-name-preserved t c = rw (c.beside-counts.ensures, c.of_optional.ensures, c.loop-name.invariant) (sym (counted_mapped declarator_of c.args.names.now c.loop-name.name-index c.name-item.result c.name-item.is c.loop-name-test.true))

pub of_cases-of_optional-requires : goal.of_cases-of_optional-requires
of_cases-of_optional-requires t c = (omega (arith, c.decreases, ap (λ m. tree_size (case_of m)) c.case-item.is, mapped_smaller case_of c.args.cases.now c.loop-case.case-index c.case-item.result c.loop-case-test.true), tt)

pub of_cases-of_statements-body-requires : goal.of_cases-of_statements-body-requires
of_cases-of_statements-body-requires t c = (omega (arith, c.decreases, ap (λ l. tree_size (listed l)) c.as_slice.ensures, ap (λ m. tree_size (case_of m)) c.case-item.is, mapped_smaller case_of c.args.cases.now c.loop-case.case-index c.case-item.result c.loop-case-test.true), tt)

pub of_cases-loop-case-preserved : goal.of_cases-loop-case-preserved
unfolding counted
of_cases-loop-case-preserved t c = rw (c.beside-counts.ensures, c.beside.ensures, c.of_optional.ensures, c.of_statements-body.ensures, c.as_slice.ensures, c.loop-case.invariant) (sym (counted_mapped case_of c.args.cases.now c.loop-case.case-index c.case-item.result c.case-item.is c.loop-case-test.true))

pub of_optional-of_expression-requires : goal.of_optional-of_expression-requires
of_optional-of_expression-requires t c = (omega (arith, c.decreases, ap tree_size c.deref.ensures, ap (λ o. tree_size (optional o)) c.in-Some.is), tt)

pub of_other-of_statement-requires : goal.of_other-of_statement-requires
of_other-of_statement-requires t c = (omega (arith, c.decreases, ap tree_size c.deref.ensures, ap (λ o. tree_size (optional o)) c.in-Some.is), tt)

pub of_block-of_statements-requires : goal.of_block-of_statements-requires
of_block-of_statements-requires t c = (omega (arith, c.decreases, ap (λ l. tree_size (listed l)) c.as_slice.ensures, ap (λ o. tree_size (optional_list o)) c.in-Some.is), tt)

pub of_key-of_expression-requires : goal.of_key-of_expression-requires
of_key-of_expression-requires t c = (omega (arith, c.decreases, ap tree_size c.deref.ensures, ap (λ k. tree_size (key_of k)) c.in-Computed.is), tt)

pub of_head-of_expression-requires : goal.of_head-of_expression-requires
of_head-of_expression-requires t c = (omega (arith, c.decreases, ap tree_size c.deref.ensures, ap (λ h. tree_size (head_of h)) c.in-Value.is), tt)

pub of_head-of_declarators-requires : goal.of_head-of_declarators-requires
of_head-of_declarators-requires t c = (omega (arith, c.decreases, ap (λ l. tree_size (listed (map declarator_of l))) c.as_slice.ensures, ap (λ h. tree_size (head_of h)) c.in-Declare.is), tt)

pub of_expressions-returns : goal.of_expressions-returns
of_expressions-returns t c = c.loop-expression.invariant ∙ ap (λ l. counted (listed l)) (take_all c.loop-expression.expression-index c.args.expressions.now c.loop-expression-test.false)

pub of_statements-returns : goal.of_statements-returns
of_statements-returns t c = c.loop-statement.invariant ∙ ap (λ l. counted (listed l)) (take_all c.loop-statement.statement-index c.args.statements.now c.loop-statement-test.false)

pub of_members-returns : goal.of_members-returns
of_members-returns t c = c.loop-member.invariant ∙ ap (λ l. counted (listed (map member_of l))) (take_all c.loop-member.member-index c.args.members.now c.loop-member-test.false)

pub of_declarators-returns : goal.of_declarators-returns
of_declarators-returns t c = c.loop-name.invariant ∙ ap (λ l. counted (listed (map declarator_of l))) (take_all c.loop-name.name-index c.args.names.now c.loop-name-test.false)

pub of_cases-returns : goal.of_cases-returns
of_cases-returns t c = c.loop-case.invariant ∙ ap (λ l. counted (listed (map case_of l))) (take_all c.loop-case.case-index c.args.cases.now c.loop-case-test.false)

pub of_class-returns-then-writes_constructor : goal.of_class-returns-then-writes_constructor
unfolding counted
of_class-returns-then-writes_constructor t c =
    let written : writes_constructor (listed (map member_of c.args.class.now.members)) ≡ true = writes_constructor_listed c.args.class.now.members ∙ ap (λ xs. list_any (λ m. is_constructor (member_of m)) xs) (sym c.as_slice-2.ensures) ∙ sym c.writes_constructor.ensures ∙ c.if-writes_constructor.true in
    rw (written, c.inside-inner.ensures, c.beside.ensures, c.of_optional.ensures, c.of_members.ensures, c.as_slice.ensures) refl

pub of_class-returns-else-writes_constructor : goal.of_class-returns-else-writes_constructor
unfolding counted
of_class-returns-else-writes_constructor t c =
    let written : writes_constructor (listed (map member_of c.args.class.now.members)) ≡ false = writes_constructor_listed c.args.class.now.members ∙ ap (λ xs. list_any (λ m. is_constructor (member_of m)) xs) (sym c.as_slice-2.ensures) ∙ sym c.writes_constructor.ensures ∙ c.if-writes_constructor.false in
    rw (written, c.and_function.ensures, c.inside-inner.ensures, c.beside.ensures, c.of_optional.ensures, c.of_members.ensures, c.as_slice.ensures) refl
