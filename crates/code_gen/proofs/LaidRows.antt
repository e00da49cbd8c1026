-- Codes that stand are laid: worked rows of an expression, of a loop and of a `try`.
use Rattle.std.proofs.Common.{arith}
use Rattle.std.specs.Prelude.{ℕ, ◌+◌, ◌==◌, cond, nat_lt, List, [], ◌∷◌, length, pos, Option, Some, None, refl}
use Rattle.byte_code.specs.declared.instruction.Op.{Op}
use Rattle.byte_code.specs.declared.instruction.Op.TheVariants as i
use Rattle.byte_code.specs.Instructions.{spelling}
use Rattle.es_model.specs.declared.kinds.Semi.TheVariants as semi
use Rattle.es_model.specs.declared.kinds.BinaryOperator.TheVariants as b
use Rattle.es_model.specs.Tree as t
use Rattle.es_model.specs.Tree.{Tree, Text}
use Rattle.es_model.specs.Scopes.{top_setting, gather}
use Rattle.es_model.specs.Functions.{functions, writes_constructor}
use Rattle.es_model.specs.FreeNames.{mentions, free, captured, places}
use Rattle.code_gen.specs.Mentions.{frame_of}
use Rattle.code_gen.specs.Laid.{LaidExpression, LaidStatement, LaidModule}

-- the instruction at an offset, with the offset of the next one
abbrev fetched : ℕ → List Op → ℕ → Option (Op × ℕ)
fetched at [] pc = None
fetched at (one ∷ rest) pc = cond (pc == at) (Some (one, at + length (spelling one))) (fetched (at + length (spelling one)) rest pc)

abbrev nowhere : ℕ → Option ℕ
nowhere pc = None

-- names have no numbers here
abbrev unnumbered : Text → ℕ
unnumbered text = 0

-- 1 + 2;
abbrev sum : Tree (t.list t.item)
sum = t.more (t.Plain (t.Value (t.Binary b.Add (t.Number (pos 1)) (t.Number (pos 2))) semi.Written)) t.none

abbrev sum_code : List Op
sum_code = i.Int (pos 1) ∷ i.Int (pos 2) ∷ i.Binary 0 ∷ i.Pop ∷ i.Undefined ∷ i.Return ∷ []

sum_is_laid : LaidModule unnumbered (fetched 0 sum_code) nowhere (frame_of sum []) (top_setting sum) sum 9
unfolding functions writes_constructor mentions free captured gather places LaidExpression LaidStatement
sum_is_laid = (0, refl, (7, (7, (6, (2, (refl, refl), (4, (refl, refl), (refl, refl))), (refl, refl)), refl), (8, (refl, refl), (refl, refl))))

-- while (true) break;
abbrev loop : Tree (t.list t.item)
loop = t.more (t.Plain (t.While t.True (t.Break 13 semi.Written))) t.none

abbrev loop_code : List Op
loop_code = i.Turn ∷ i.True ∷ i.JumpUnless 11 ∷ i.Jump 11 ∷ i.Jump 0 ∷ i.Undefined ∷ i.Return ∷ []

loop_is_laid : LaidModule unnumbered (fetched 0 loop_code) nowhere (frame_of loop []) (top_setting loop) loop 13
unfolding functions writes_constructor mentions free captured gather places LaidExpression LaidStatement
loop_is_laid = (0, refl, (11, (11, (0, (11, (0, (refl, refl), (1, (refl, refl), (2, (refl, refl), (5, (refl, refl), (8, (refl, refl), (11, (refl, refl), (refl, refl))))))))), refl), (12, (refl, refl), (refl, refl))))

-- try { 1; } finally { 2; }
abbrev kept : Tree (t.list t.item)
kept = t.more (t.Plain (t.Try (t.more (t.Value (t.Number (pos 1)) semi.Written) t.none) None t.absent (t.present (t.more (t.Value (t.Number (pos 2)) semi.Written) t.none)))) t.none

abbrev kept_code : List Op
kept_code =
    i.Int (pos 1) ∷ i.Pop ∷ i.Int (pos 0) ∷ i.LocalPut 0 ∷ i.Jump 19 ∷
    i.LocalPut 1 ∷ i.Int (pos 1) ∷ i.LocalPut 0 ∷
    i.Int (pos 2) ∷ i.Pop ∷
    i.LocalGet 0 ∷ i.Int (pos 1) ∷ i.Binary 18 ∷ i.JumpUnless 36 ∷ i.LocalGet 1 ∷ i.Throw ∷
    i.Undefined ∷ i.Return ∷ []

-- the handler of the block and of what follows it, up to the handler itself
abbrev in_block : ℕ → Option ℕ
in_block pc = cond (nat_lt pc 11) (Some 11) None

kept_is_laid : LaidModule unnumbered (fetched 0 kept_code) in_block (frame_of kept []) (top_setting kept) kept 38
unfolding functions writes_constructor mentions free captured gather places LaidExpression LaidStatement
kept_is_laid = (
  0,
  refl,
  (
    36,
    (
      36,
      (
        [],
        (
          0,
          (
            omega arith,
            (
              11,
              (
                19,
                (
                  11,
                  (3, (0, refl, (3, (2, (refl, refl), (refl, refl)), refl)), (5, (refl, refl), (8, (refl, refl), (refl, refl)))),
                  (
                    11,
                    (refl, refl),
                    (
                      14,
                      (refl, refl),
                      (
                        16,
                        (refl, refl),
                        (
                          19,
                          (refl, refl),
                          (
                            19,
                            (refl, refl),
                            (
                              22,
                              (19, refl, (22, (21, (refl, refl), (refl, refl)), refl)),
                              (36, (36, (25, (refl, refl), (27, (refl, refl), (29, (refl, refl), (32, (refl, refl), (36, (35, (refl, refl), (refl, refl)), (refl, refl))))))), refl),
                            ),
                          ),
                        ),
                      ),
                    ),
                  ),
                ),
              ),
            ),
          ),
        ),
      ),
      refl,
    ),
    (37, (refl, refl), (refl, refl)),
  ),
)
