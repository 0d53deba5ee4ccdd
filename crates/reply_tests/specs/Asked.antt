-- The question that a task holds.
use Rattle.scheme.specs.Question.{Question}
use Rattle.commitment.specs.Shape.{sizes_in}
use Rattle.reply_tests.specs.Posed.{posed}
use Rattle.reply_tests.specs.declared.task.Task.{Task}

abbrev pub asked : Task → Question
asked t = posed (sizes_in t.shape) t.root.now t.salt.now t.challenges.now t.points.now t.indices.now
