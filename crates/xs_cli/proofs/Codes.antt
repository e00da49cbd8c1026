-- The bytes of a module's code, text by text.
use Rattle.std.proofs.Common.{◌≡◌, ◌≤◌, ◌<◌, ◌∙◌, ◌++◌, ◌+◌, ℕ, List, ◌∷◌, length, drop, get_or, ap, sym, append_assoc}
use Rattle.std.proofs.lemmas.List.{at_drop_more, at_drop_all}
use Rattle.byte_code.specs.declared.instruction.Op.TheVariants as op
use Rattle.byte_code.specs.Instructions.{spelling}
use Rattle.xs_cli.specs.Code.{body, spelled, number, print_text}

pub code_more : (names texts : List (List ℕ)) (i : ℕ) (code next item : List ℕ) → spelled (body names texts) ≡ code ++ spelled (body names (drop i texts)) → i < length texts → item ≡ get_or texts i item → next ≡ code ++ spelled (print_text (number names item)) → spelled (body names texts) ≡ next ++ spelled (body names (drop (i + 1) texts))
unfolding body spelled
code_more names texts i code next item inv h e n =
    inv ∙ at_drop_more (λ rest. code ++ spelled (body names rest)) texts i item h
    ∙ ap (λ t. code ++ spelled (body names (t ∷ drop (i + 1) texts))) (sym e)
    ∙ sym (ap (λ c. c ++ spelled (body names (drop (i + 1) texts))) n ∙ append_assoc code (spelled (print_text (number names item))) (spelled (body names (drop (i + 1) texts))))

pub code_end : (names texts : List (List ℕ)) (i : ℕ) (code mid next : List ℕ) → spelled (body names texts) ≡ code ++ spelled (body names (drop i texts)) → length texts ≤ i → mid ≡ code ++ spelling op.Undefined → next ≡ mid ++ spelling op.Return → next ≡ spelled (body names texts)
unfolding body spelled
code_end names texts i code mid next inv h m n =
    n ∙ ap (λ c. c ++ spelling op.Return) m ∙ append_assoc code (spelling op.Undefined) (spelling op.Return)
    ∙ sym (inv ∙ at_drop_all (λ rest. code ++ spelled (body names rest)) texts i h)
