-- 01's example: the study's report, answer and buffer, the check's pass, and the power account. Assumes nothing.
use Rattle.answers.specs.Answers.{done}
use Rattle.std.specs.Prelude.{List, [], ◌∷◌, ◌++◌, ◌≡◌, refl, ℕ, pos, replicate, Ok, Err}
use Rattle.check_answer.specs.CheckAnswer.{check_text}
use Rattle.answers.specs.declared.Refusal.TheVariants.{BufferShort}
use Rattle.text.specs.Text.{bytes}
use Rattle.ladder.specs.Study.{report, study_of, buffer_of}
use Rattle.verdicts.specs.Check.{checked}
use Rattle.study_answer.specs.StudyAnswer.{study_text}
use Rattle.trials.specs.Opened.{opened, account_of}

abbrev pub feeder : List ℕ
feeder =
    bytes "source,va_re,va_im,vb_re,vb_im,vc_re,vc_im,tol,sweeps\nS,720000,0,-360000,-623538,-360000,623538,1,20\n\n"
    ++ (bytes "from,to,phases,kind,p1,p2,p3,p4,p5,p6,p7,p8,p9,p10,p11,p12\nS,N1,A,L,1000000,0,0,0,0,0,0,0,0,0,0,0\n\n"
    ++ bytes "node,phase,kind,vn,p,q\nN1,A,P,720000,72000,0\n")

-- the report as document 01 prints it, and with the last table of document 02, in which it has no row: the feeder has no regulator
abbrev pub tables : List ℕ
tables =
    bytes "node,va_re,va_im,vb_re,vb_im,vc_re,vc_im\nS,720000,0,-360000,-623538,-360000,623538\nN1,719000,0,0,0,0,0\n\n"
    ++ (bytes "from,to,ia_re,ia_im,ib_re,ib_im,ic_re,ic_im,loss_p,loss_q\nS,N1,10014,0,0,0,0,0,10024014,0\n\n"
    ++ bytes "sweeps,source_p,source_q,drawn_p,drawn_q,lost_p,lost_q\n2,7210080000,0,7200066000,0,10024014,0\n")

abbrev pub written : List ℕ
written = tables ++ bytes "\nto,tap_a,tap_b,tap_c\n"

-- "The report that the study program prints for it": its bytes, and the number of sweeps made
reported : report feeder ≡ Ok (record { text = written; sweeps = 2 })
unfolding opened
reported = refl

-- the answer: length and sweeps, in a buffer that is longer and in one that it just fits into; 40 at one byte less
answer : study_of feeder 400 ≡ Ok (record { length = 311; sweeps = 2 })
unfolding opened
answer = refl

just-fits : study_of feeder 311 ≡ Ok (record { length = 311; sweeps = 2 })
unfolding opened
just-fits = refl

too_short : study_of feeder 310 ≡ Err (BufferShort 311)
unfolding opened
too_short = refl

-- "On success bytes behind the report keep their values"; after a refusal all do
buffer : buffer_of feeder (replicate 313 42) ≡ written ++ (42 ∷ 42 ∷ [])
unfolding opened
buffer = refl

buffer-kept : buffer_of feeder (replicate 310 42) ≡ replicate 310 42
unfolding opened
buffer-kept = refl

passes : checked feeder written ≡ Ok done
unfolding opened
passes = refl

-- 02: "A report filed without that table is read with the taps p1 to p3 if no regulator has a level above 0"
passes-as-filed : checked feeder tables ≡ Ok done
unfolding opened
passes-as-filed = refl

-- what the programs write: the report, the line of a refusal, and "pass"
program-report : study_text feeder 65536 ≡ written
unfolding opened
program-report = refl

program-refusal : study_text feeder 310 ≡ bytes "refused 40 311\n"
unfolding opened
program-refusal = refl

program-pass : check_text feeder written ≡ bytes "pass\n"
unfolding opened
program-pass = refl

program-layout : check_text feeder feeder ≡ bytes "refused 50 0\n"
unfolding opened
program-layout = refl

-- "Above: difference 51,980, twice that 103,960, allowance 749,044"
account : account_of feeder written ≡ Ok (record { differs = record { re = pos 51980; im = pos 0 }; allowed = 749044 })
unfolding opened
account = refl

account-as-filed : account_of feeder tables ≡ Ok (record { differs = record { re = pos 51980; im = pos 0 }; allowed = 749044 })
unfolding opened
account-as-filed = refl
