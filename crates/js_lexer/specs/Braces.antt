use Rattle.es_model.specs.Tokens as s
use Rattle.js_lexer.specs.declared.braces.Brace.{Brace}
use Rattle.js_lexer.specs.declared.braces.Brace.TheVariants.{Curly, Substitution}

-- the definition's open brace
abbrev pub brace_of : Brace → s.Brace
brace_of Curly = s.Curly
brace_of (Substitution at) = s.Substitution at
