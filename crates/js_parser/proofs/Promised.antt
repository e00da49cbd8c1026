-- A result that is the machine's, unless memory was wanting, is what the parser promises.
use Rattle.std.proofs.Common.{◌≡◌, ◌≢◌, Bool, true, false, Result, Ok, Err, refl, ap, sym, subst, ◌∙◌, true≢false}
use Rattle.es_model.specs.Readings.{Tokens}
use Rattle.es_model.specs.Tree as t
use Rattle.es_model.specs.Tree.{Tree}
use Rattle.js_parser.specs.Machine.{answer}
use Rattle.js_parser.specs.declared.fault.ParseFault.{ParseFault}
use Rattle.js_parser.specs.declared.fault.ParseFault.TheVariants as fault
use Rattle.js_parser.specs.Parsed.{Answers, EndsLast, result_of}
use Rattle.js_parser.proofs.Theorem.{answers}

abbrev Outcome : Type 0
Outcome = Result (Tree (t.list t.item)) ParseFault

abbrev is_memory : Outcome → Bool
is_memory (Err fault.Memory) = true
is_memory _ = false

not_memory : (result : Outcome) → is_memory result ≡ false → result ≢ Err fault.Memory
not_memory result other e = true≢false (sym (ap is_memory e) ∙ other)

pub promised : (tokens : Tokens) (result : Outcome) → EndsLast tokens → (result ≢ Err fault.Memory → result ≡ result_of (answer tokens)) → Answers tokens result
promised tokens (Ok whole) ends same = subst (Answers tokens) (sym (same (not_memory (Ok whole) refl))) (answers tokens ends)
promised tokens (Err (fault.Syntax n)) ends same = subst (Answers tokens) (sym (same (not_memory (Err (fault.Syntax n)) refl))) (answers tokens ends)
promised tokens (Err fault.TooDeep) ends same = subst (Answers tokens) (sym (same (not_memory (Err fault.TooDeep) refl))) (answers tokens ends)
promised tokens (Err fault.Memory) ends same = tt
