use Rattle.std.proofs.Common.{◌<◌, length, arith}
use Rattle.std.proofs.lemmas.List.{length-drop, take_rest}
use Rattle.js_lexer.proofs.Utf8.{ascii_characters, ascii_rest, width-1}
use Rattle.js_lexer.proofs.characters.split_first.Goals as goal

pub returns-in-len1-up : goal.returns-in-len1-up
returns-in-len1-up c =
    let some : 0 < length c.args.bytes.now = omega arith in
    rw (take_rest c.args.bytes.now 1) (rw c.from.ensures (
      ascii_characters c.args.bytes.now some c.if-byte-lt128.true,
      ascii_rest c.args.bytes.now some c.if-byte-lt128.true c.requires,
      rw (width-1 _ c.if-byte-lt128.true) (omega (arith, length-drop 1 c.args.bytes.now)),
    ))
