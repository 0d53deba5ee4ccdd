-- `report::put_byte` meets its contract: one store.
use Rattle.report.proofs.Writing.{written_one}
use borrow.Author.Rules.{rules}
use Rattle.report.proofs.put_byte.Goals as goal

pub returns : goal.returns
returns c = written_one c.args.out.now c.args.at c.args.x (search rules)
