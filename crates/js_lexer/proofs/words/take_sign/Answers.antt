use Rattle.js_lexer.proofs.Signs.{sign_read, sign_none}
use Rattle.js_lexer.proofs.words.take_sign.Goals as goal

pub returns-in-Some-clause-element : goal.returns-in-Some-clause-element
returns-in-Some-clause-element c = sign_read c.args.at c.args.first c.in-Some.place c.args.left.now c.longest_sign.new.left c.in-Some.ensures

pub returns-in-None-clause-element : goal.returns-in-None-clause-element
returns-in-None-clause-element c = λ _. sign_none c.args.at c.args.first c.args.left.now c.in-None.ensures
