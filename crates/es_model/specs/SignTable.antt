-- What the table of signs in `Words` holds (own). It serves the program's look-up, and is no definition
-- of the language: that it has the texts of `signs`, each once, is proved.
use Rattle.std.specs.Prelude.{ℕ, List, [], ◌∷◌, codes}

-- the texts of `signs` in ascending order
abbrev pub ascending_signs : List (List ℕ)
ascending_signs =
    codes "!" ∷ codes "!=" ∷ codes "!==" ∷ codes "%" ∷ codes "%=" ∷ codes "&" ∷ codes "&&" ∷ codes "&=" ∷ codes "(" ∷
    codes ")" ∷ codes "*" ∷ codes "**" ∷ codes "**=" ∷ codes "*=" ∷ codes "+" ∷ codes "++" ∷ codes "+=" ∷ codes "," ∷
    codes "-" ∷ codes "--" ∷ codes "-=" ∷ codes "." ∷ codes "/" ∷ codes "/=" ∷ codes ":" ∷ codes ";" ∷ codes "<" ∷
    codes "<<" ∷ codes "<<=" ∷ codes "<=" ∷ codes "=" ∷ codes "==" ∷ codes "===" ∷ codes "=>" ∷ codes ">" ∷ codes ">=" ∷
    codes ">>" ∷ codes ">>=" ∷ codes ">>>" ∷ codes ">>>=" ∷ codes "?" ∷ codes "??" ∷ codes "[" ∷ codes "]" ∷ codes "^" ∷
    codes "^=" ∷ codes "{" ∷ codes "|" ∷ codes "|=" ∷ codes "||" ∷ codes "}" ∷ codes "~" ∷ []
