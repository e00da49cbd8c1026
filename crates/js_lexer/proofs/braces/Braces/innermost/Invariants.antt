use Rattle.std.proofs.Common.{◌≡◌, ◌≤◌, map, reverse, take, length}
use Rattle.es_model.specs.Tokens.{innermost}
use Rattle.js_lexer.specs.Braces.{brace_of}
use Rattle.js_lexer.proofs.braces.Braces.innermost.Given as goal

abbrev pub invariant-loop-count : goal.invariant-loop-count
invariant-loop-count l = record {
  within : l.count ≤ length l.self-inside.items.items;
  same : innermost (reverse (map brace_of l.self-inside.items.items)) ≡ innermost (reverse (map brace_of (take l.count l.self-inside.items.items)));
}

abbrev pub decreases-loop-count : goal.decreases-loop-count
decreases-loop-count l = l.count
