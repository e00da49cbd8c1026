use Rattle.std.proofs.Common.{arith}
use Rattle.es_model.proofs.TokenLaws.{tokens_few}
use Rattle.front_bench.proofs.Ends.{tokens_end}
use Rattle.front_bench.proofs.parsed.Goals as goal

pub module-requires : goal.module-requires
module-requires c = record {
  size = omega (arith, c.requires, tokens_few c.args.text.now c.in_ok-tokens.tokens c.in_ok-tokens.ensures);
  ends = tokens_end c.args.text.now c.in_ok-tokens.tokens c.in_ok-tokens.ensures;
}
