use Rattle.std.proofs.Common.{◌≡◌, ◌+◌, ◌*◌, map, take}
use Rattle.es_model.specs.Tree.{listed, tree_size}
use Rattle.es_model.specs.Counted.{counted}
use Rattle.es_model.specs.View.{expression_of, statement_of, optional, optional_list, function_of, class_of, member_of, key_of, head_of, declarator_of, case_of}
use Rattle.es_model.proofs.measure.+counts.Given as goal

abbrev pub invariant-of_expressions-loop-expression : goal.invariant-of_expressions-loop-expression
invariant-of_expressions-loop-expression l = l.counts ≡ counted (listed (take l.expression-index l.expressions))

abbrev pub invariant-of_statements-loop-statement : goal.invariant-of_statements-loop-statement
invariant-of_statements-loop-statement l = l.counts ≡ counted (listed (take l.statement-index l.statements))

abbrev pub invariant-of_members-loop-member : goal.invariant-of_members-loop-member
invariant-of_members-loop-member l = l.counts ≡ counted (listed (map member_of (take l.member-index l.members)))

abbrev pub invariant-of_declarators-loop-name : goal.invariant-of_declarators-loop-name
invariant-of_declarators-loop-name l = l.counts ≡ counted (listed (map declarator_of (take l.name-index l.names)))

abbrev pub invariant-of_cases-loop-case : goal.invariant-of_cases-loop-case
invariant-of_cases-loop-case l = l.counts ≡ counted (listed (map case_of (take l.case-index l.cases)))

-- twice the size, and one more where the next call is for the same form
abbrev pub decreases-of_operation : goal.decreases-of_operation
decreases-of_operation l = 2 * tree_size (expression_of l.form.now)

abbrev pub decreases-of_loop : goal.decreases-of_loop
decreases-of_loop l = 2 * tree_size (statement_of l.form.now)

abbrev pub decreases-of_expression : goal.decreases-of_expression
decreases-of_expression l = 2 * tree_size l.expression.now + 1

abbrev pub decreases-of_expressions : goal.decreases-of_expressions
decreases-of_expressions l = 2 * tree_size (listed l.expressions.now)

abbrev pub decreases-of_optional : goal.decreases-of_optional
decreases-of_optional l = 2 * tree_size (optional l.expression.now)

abbrev pub decreases-of_statement : goal.decreases-of_statement
decreases-of_statement l = 2 * tree_size l.statement.now + 1

abbrev pub decreases-of_other : goal.decreases-of_other
decreases-of_other l = 2 * tree_size (optional l.other.now)

abbrev pub decreases-of_statements : goal.decreases-of_statements
decreases-of_statements l = 2 * tree_size (listed l.statements.now)

abbrev pub decreases-of_block : goal.decreases-of_block
decreases-of_block l = 2 * tree_size (optional_list l.block.now)

abbrev pub decreases-of_function : goal.decreases-of_function
decreases-of_function l = 2 * tree_size (function_of l.function.now)

abbrev pub decreases-of_class : goal.decreases-of_class
decreases-of_class l = 2 * tree_size (class_of l.class.now)

abbrev pub decreases-of_members : goal.decreases-of_members
decreases-of_members l = 2 * tree_size (listed (map member_of l.members.now))

abbrev pub decreases-of_member : goal.decreases-of_member
decreases-of_member l = 2 * tree_size (member_of l.member.now)

abbrev pub decreases-of_key : goal.decreases-of_key
decreases-of_key l = 2 * tree_size (key_of l.key.now)

abbrev pub decreases-of_head : goal.decreases-of_head
decreases-of_head l = 2 * tree_size (head_of l.head.now)

abbrev pub decreases-of_declarators : goal.decreases-of_declarators
decreases-of_declarators l = 2 * tree_size (listed (map declarator_of l.names.now))

abbrev pub decreases-of_cases : goal.decreases-of_cases
decreases-of_cases l = 2 * tree_size (listed (map case_of l.cases.now))
