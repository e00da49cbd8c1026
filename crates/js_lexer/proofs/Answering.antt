-- Answers that hand a fault on.
use Rattle.std.proofs.Common.{◌≡◌, ◌≢◌, List, Result, Ok, Err, sym, ◌∙◌, ap}
use Rattle.std.specs.Result.{IsErrAnd}
use Rattle.es_model.specs.declared.faults.LexFault.{LexFault}
use Rattle.es_model.specs.declared.faults.LexFault.TheVariants.{Memory}
use Rattle.es_model.specs.declared.token.Token.{Token}
use Rattle.js_lexer.specs.Left.{Left}
use Rattle.js_lexer.specs.Reads.{Reads, Lists, Answers}

pub reads_err : {A : Type 0} (expected : Result (A × Left) LexFault) (r : Result A LexFault) (left : Left) (fault : LexFault) → IsErrAnd r (λ other. other ≡ fault) → (fault ≢ Memory → expected ≡ Err fault) → Reads expected r left
reads_err expected (Ok value) left fault e h = absurd e
reads_err expected (Err other) left fault e h = λ no. h (λ memory. no (e ∙ memory)) ∙ ap (λ f. Err f) (sym e)

pub lists_err : (expected : Result (List Token) LexFault) (r : Result Unit LexFault) (tokens : List Token) (fault : LexFault) → IsErrAnd r (λ other. other ≡ fault) → (fault ≢ Memory → expected ≡ Err fault) → Lists expected r tokens
lists_err expected (Ok done) tokens fault e h = absurd e
lists_err expected (Err other) tokens fault e h = λ no. h (λ memory. no (e ∙ memory)) ∙ ap (λ f. Err f) (sym e)

pub answers_err : (expected r : Result (List Token) LexFault) (fault : LexFault) → IsErrAnd r (λ other. other ≡ fault) → (fault ≢ Memory → expected ≡ Err fault) → Answers expected r
answers_err expected (Ok tokens) fault e h = absurd e
answers_err expected (Err other) fault e h = λ no. h (λ memory. no (e ∙ memory)) ∙ ap (λ f. Err f) (sym e)
