-- 9: a feeder and a report of one byte more than 65,536; and of just as many bytes, which are read. Assumes nothing.
use Rattle.std.specs.Prelude.{[], ◌≡◌, refl, replicate, Err}
use Rattle.answers.specs.declared.Refusal.TheVariants.{TooLong, Layout}
use Rattle.ladder.specs.Study.{study_of}
use Rattle.verdicts.specs.Check.{checked}
use Rattle.trials.specs.Opened.{opened}

study-9 : study_of (replicate 65537 65) 0 ≡ Err TooLong
unfolding opened
study-9 = refl

study-at-limit : study_of (replicate 65536 65) 0 ≡ Err (Layout 1)
unfolding opened
study-at-limit = refl

check-9-feeder : checked (replicate 65537 65) [] ≡ Err TooLong
unfolding opened
check-9-feeder = refl

check-9-report : checked [] (replicate 65537 65) ≡ Err TooLong
unfolding opened
check-9-report = refl

check-at-limit : checked [] (replicate 65536 65) ≡ Err (Layout 1)
unfolding opened
check-at-limit = refl
