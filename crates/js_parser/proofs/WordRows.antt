-- Each keyword and each sign, by its text, is the word that its name says.
use Rattle.std.proofs.Common.{◌≡◌, refl}
use Rattle.es_model.specs.Readings.{word}
use Rattle.js_parser.specs.declared.words.Word.TheVariants as w
use Rattle.js_parser.specs.Words.{word_of}

await_word : word_of (word "await") ≡ w.Reserved
unfolding word
await_word = refl

break_word : word_of (word "break") ≡ w.Break
unfolding word
break_word = refl

case_word : word_of (word "case") ≡ w.Case
unfolding word
case_word = refl

catch_word : word_of (word "catch") ≡ w.Catch
unfolding word
catch_word = refl

class_word : word_of (word "class") ≡ w.Class
unfolding word
class_word = refl

const_word : word_of (word "const") ≡ w.Const
unfolding word
const_word = refl

continue_word : word_of (word "continue") ≡ w.Continue
unfolding word
continue_word = refl

debugger_word : word_of (word "debugger") ≡ w.Reserved
unfolding word
debugger_word = refl

default_word : word_of (word "default") ≡ w.Default
unfolding word
default_word = refl

delete_word : word_of (word "delete") ≡ w.Delete
unfolding word
delete_word = refl

do_word : word_of (word "do") ≡ w.Do
unfolding word
do_word = refl

else_word : word_of (word "else") ≡ w.Else
unfolding word
else_word = refl

enum_word : word_of (word "enum") ≡ w.Reserved
unfolding word
enum_word = refl

export_word : word_of (word "export") ≡ w.Export
unfolding word
export_word = refl

extends_word : word_of (word "extends") ≡ w.Extends
unfolding word
extends_word = refl

false_word : word_of (word "false") ≡ w.False
unfolding word
false_word = refl

finally_word : word_of (word "finally") ≡ w.Finally
unfolding word
finally_word = refl

for_word : word_of (word "for") ≡ w.For
unfolding word
for_word = refl

function_word : word_of (word "function") ≡ w.Function
unfolding word
function_word = refl

if_word : word_of (word "if") ≡ w.If
unfolding word
if_word = refl

implements_word : word_of (word "implements") ≡ w.Reserved
unfolding word
implements_word = refl

import_word : word_of (word "import") ≡ w.Import
unfolding word
import_word = refl

in_word : word_of (word "in") ≡ w.In
unfolding word
in_word = refl

instance_of_word : word_of (word "instanceof") ≡ w.InstanceOf
unfolding word
instance_of_word = refl

interface_word : word_of (word "interface") ≡ w.Reserved
unfolding word
interface_word = refl

let_word : word_of (word "let") ≡ w.Let
unfolding word
let_word = refl

new_word : word_of (word "new") ≡ w.New
unfolding word
new_word = refl

null_word : word_of (word "null") ≡ w.Null
unfolding word
null_word = refl

package_word : word_of (word "package") ≡ w.Reserved
unfolding word
package_word = refl

private_word : word_of (word "private") ≡ w.Reserved
unfolding word
private_word = refl

protected_word : word_of (word "protected") ≡ w.Reserved
unfolding word
protected_word = refl

public_word : word_of (word "public") ≡ w.Reserved
unfolding word
public_word = refl

return_word : word_of (word "return") ≡ w.Return
unfolding word
return_word = refl

static_word : word_of (word "static") ≡ w.Static
unfolding word
static_word = refl

super_word : word_of (word "super") ≡ w.Super
unfolding word
super_word = refl

switch_word : word_of (word "switch") ≡ w.Switch
unfolding word
switch_word = refl

this_word : word_of (word "this") ≡ w.This
unfolding word
this_word = refl

throw_word : word_of (word "throw") ≡ w.Throw
unfolding word
throw_word = refl

true_word : word_of (word "true") ≡ w.True
unfolding word
true_word = refl

try_word : word_of (word "try") ≡ w.Try
unfolding word
try_word = refl

typeof_word : word_of (word "typeof") ≡ w.Typeof
unfolding word
typeof_word = refl

var_word : word_of (word "var") ≡ w.Reserved
unfolding word
var_word = refl

void_word : word_of (word "void") ≡ w.Void
unfolding word
void_word = refl

while_word : word_of (word "while") ≡ w.While
unfolding word
while_word = refl

with_word : word_of (word "with") ≡ w.Reserved
unfolding word
with_word = refl

yield_word : word_of (word "yield") ≡ w.Reserved
unfolding word
yield_word = refl

left_brace_word : word_of (word "{") ≡ w.LeftBrace
unfolding word
left_brace_word = refl

right_brace_word : word_of (word "}") ≡ w.RightBrace
unfolding word
right_brace_word = refl

left_paren_word : word_of (word "(") ≡ w.LeftParen
unfolding word
left_paren_word = refl

right_paren_word : word_of (word ")") ≡ w.RightParen
unfolding word
right_paren_word = refl

left_bracket_word : word_of (word "[") ≡ w.LeftBracket
unfolding word
left_bracket_word = refl

right_bracket_word : word_of (word "]") ≡ w.RightBracket
unfolding word
right_bracket_word = refl

semicolon_word : word_of (word ";") ≡ w.Semicolon
unfolding word
semicolon_word = refl

comma_word : word_of (word ",") ≡ w.Comma
unfolding word
comma_word = refl

point_word : word_of (word ".") ≡ w.Point
unfolding word
point_word = refl

less_word : word_of (word "<") ≡ w.Less
unfolding word
less_word = refl

greater_word : word_of (word ">") ≡ w.Greater
unfolding word
greater_word = refl

less_or_equal_word : word_of (word "<=") ≡ w.LessOrEqual
unfolding word
less_or_equal_word = refl

greater_or_equal_word : word_of (word ">=") ≡ w.GreaterOrEqual
unfolding word
greater_or_equal_word = refl

equal_word : word_of (word "==") ≡ w.Equal
unfolding word
equal_word = refl

not_equal_word : word_of (word "!=") ≡ w.NotEqual
unfolding word
not_equal_word = refl

strict_equal_word : word_of (word "===") ≡ w.StrictEqual
unfolding word
strict_equal_word = refl

strict_not_equal_word : word_of (word "!==") ≡ w.StrictNotEqual
unfolding word
strict_not_equal_word = refl

plus_word : word_of (word "+") ≡ w.Plus
unfolding word
plus_word = refl

minus_word : word_of (word "-") ≡ w.Minus
unfolding word
minus_word = refl

star_word : word_of (word "*") ≡ w.Star
unfolding word
star_word = refl

slash_word : word_of (word "/") ≡ w.Slash
unfolding word
slash_word = refl

percent_word : word_of (word "%") ≡ w.Percent
unfolding word
percent_word = refl

star_star_word : word_of (word "**") ≡ w.StarStar
unfolding word
star_star_word = refl

plus_plus_word : word_of (word "++") ≡ w.PlusPlus
unfolding word
plus_plus_word = refl

minus_minus_word : word_of (word "--") ≡ w.MinusMinus
unfolding word
minus_minus_word = refl

shift_left_word : word_of (word "<<") ≡ w.ShiftLeft
unfolding word
shift_left_word = refl

shift_right_word : word_of (word ">>") ≡ w.ShiftRight
unfolding word
shift_right_word = refl

shift_right_unsigned_word : word_of (word ">>>") ≡ w.ShiftRightUnsigned
unfolding word
shift_right_unsigned_word = refl

ampersand_word : word_of (word "&") ≡ w.Ampersand
unfolding word
ampersand_word = refl

bar_word : word_of (word "|") ≡ w.Bar
unfolding word
bar_word = refl

caret_word : word_of (word "^") ≡ w.Caret
unfolding word
caret_word = refl

exclamation_word : word_of (word "!") ≡ w.Exclamation
unfolding word
exclamation_word = refl

tilde_word : word_of (word "~") ≡ w.Tilde
unfolding word
tilde_word = refl

and_and_word : word_of (word "&&") ≡ w.AndAnd
unfolding word
and_and_word = refl

or_or_word : word_of (word "||") ≡ w.OrOr
unfolding word
or_or_word = refl

question_question_word : word_of (word "??") ≡ w.QuestionQuestion
unfolding word
question_question_word = refl

question_word : word_of (word "?") ≡ w.Question
unfolding word
question_word = refl

colon_word : word_of (word ":") ≡ w.Colon
unfolding word
colon_word = refl

assign_word : word_of (word "=") ≡ w.Assign
unfolding word
assign_word = refl

plus_assign_word : word_of (word "+=") ≡ w.PlusAssign
unfolding word
plus_assign_word = refl

minus_assign_word : word_of (word "-=") ≡ w.MinusAssign
unfolding word
minus_assign_word = refl

star_assign_word : word_of (word "*=") ≡ w.StarAssign
unfolding word
star_assign_word = refl

slash_assign_word : word_of (word "/=") ≡ w.SlashAssign
unfolding word
slash_assign_word = refl

percent_assign_word : word_of (word "%=") ≡ w.PercentAssign
unfolding word
percent_assign_word = refl

star_star_assign_word : word_of (word "**=") ≡ w.StarStarAssign
unfolding word
star_star_assign_word = refl

shift_left_assign_word : word_of (word "<<=") ≡ w.ShiftLeftAssign
unfolding word
shift_left_assign_word = refl

shift_right_assign_word : word_of (word ">>=") ≡ w.ShiftRightAssign
unfolding word
shift_right_assign_word = refl

shift_right_unsigned_assign_word : word_of (word ">>>=") ≡ w.ShiftRightUnsignedAssign
unfolding word
shift_right_unsigned_assign_word = refl

and_assign_word : word_of (word "&=") ≡ w.AndAssign
unfolding word
and_assign_word = refl

or_assign_word : word_of (word "|=") ≡ w.OrAssign
unfolding word
or_assign_word = refl

xor_assign_word : word_of (word "^=") ≡ w.XorAssign
unfolding word
xor_assign_word = refl

arrow_word : word_of (word "=>") ≡ w.Arrow
unfolding word
arrow_word = refl
