-- Trials by hand: refusals of a sweep behind the first, 31 of the check, P rows at zero voltage, the first row where a number has two causes, and relays. Assumes nothing.
use Rattle.std.specs.Prelude.{false, ◌≡◌, refl, pos, Ok, Err}
use Rattle.answers.specs.declared.Refusal.TheVariants.{CurrentDiffers, LoadBeyond, NotZero, PhaseAbsent, SecondTo, UnknownFrom, ZeroVoltage}
use Rattle.equations.specs.Taps.{relay_voltage, wants_up}
use Rattle.feeder.specs.Feeder.{no_taps}
use Rattle.integers.specs.Pairs.{0c}
use Rattle.text.specs.Text.{bytes}
use Rattle.ladder.specs.Study.{fitted, study_of}
use Rattle.verdicts.specs.Check.{checked}
use Rattle.trials.specs.Opened.{opened}

-- a P row drops all of the voltage in sweep 1: in sweep 2 it acts as an impedance, and the I row beside it meets 30
study-30-later : study_of (bytes "source,va_re,va_im,vb_re,vb_im,vc_re,vc_im,tol,sweeps\nS,10000,0,0,0,0,0,1,20\n\nfrom,to,phases,kind,p1,p2,p3,p4,p5,p6,p7,p8,p9,p10,p11,p12\nS,N,A,L,1000000,0,0,0,0,0,0,0,0,0,0,0\n\nnode,phase,kind,vn,p,q\nN,A,P,10000,10000,0\nN,A,I,1,0,0\n") 1000000 ≡ Err (ZeroVoltage 2)
unfolding opened
study-30-later = refl

-- a P row with a low vn is left with 1 cV by sweep 1, and stays constant power
study-31-later : study_of (bytes "source,va_re,va_im,vb_re,vb_im,vc_re,vc_im,tol,sweeps\nS,10000,0,0,0,0,0,1,20\n\nfrom,to,phases,kind,p1,p2,p3,p4,p5,p6,p7,p8,p9,p10,p11,p12\nS,N,A,L,1000000,0,0,0,0,0,0,0,0,0,0,0\n\nnode,phase,kind,vn,p,q\nN,A,P,1,9999,0\n") 1000000 ≡ Err (LoadBeyond 2)
unfolding opened
study-31-later = refl

-- 30 of a later row comes before 31 of an earlier one
study-30-before-31 : study_of (bytes "source,va_re,va_im,vb_re,vb_im,vc_re,vc_im,tol,sweeps\nS,10000,0,0,0,0,0,1,20\n\nfrom,to,phases,kind,p1,p2,p3,p4,p5,p6,p7,p8,p9,p10,p11,p12\nS,N,A,L,1000000,0,0,0,0,0,0,0,0,0,0,0\n\nnode,phase,kind,vn,p,q\nN,A,Z,1,3000000,0\nS,B,I,1,0,0\n") 1000000 ≡ Err (ZeroVoltage 1)
unfolding opened
study-30-before-31 = refl

-- a P row at 3599 of 5000 cV, 72 per cent, is constant power: 2,000,556 mA
check-31 : checked (bytes "source,va_re,va_im,vb_re,vb_im,vc_re,vc_im,tol,sweeps\nS,720000,0,-360000,-623538,-360000,623538,1,20\n\nfrom,to,phases,kind,p1,p2,p3,p4,p5,p6,p7,p8,p9,p10,p11,p12\nS,N1,A,R,16,0,0,0,0,0,0,0,0,0,0,0\n\nnode,phase,kind,vn,p,q\nN1,A,P,5000,72000,0\n") (bytes "node,va_re,va_im,vb_re,vb_im,vc_re,vc_im\nS,720000,0,-360000,-623538,-360000,623538\nN1,3599,0,0,0,0,0\n\nfrom,to,ia_re,ia_im,ib_re,ib_im,ic_re,ic_im,loss_p,loss_q\nS,N1,0,0,0,0,0,0,0,0\n\nsweeps,source_p,source_q,drawn_p,drawn_q,lost_p,lost_q\n1,0,0,0,0,0,0\n") ≡ Err (LoadBeyond 0)
unfolding opened
check-31 = refl

-- P rows at zero voltage take nothing, and do not meet 30
zero-voltage : fitted (bytes "source,va_re,va_im,vb_re,vb_im,vc_re,vc_im,tol,sweeps\nS,0,0,0,0,0,0,1,20\n\nfrom,to,phases,kind,p1,p2,p3,p4,p5,p6,p7,p8,p9,p10,p11,p12\n\nnode,phase,kind,vn,p,q\nS,A,P,1,5,5\nS,BC,P,4000000,5,5\n") 1000000 ≡ Ok (record { text = bytes "node,va_re,va_im,vb_re,vb_im,vc_re,vc_im\nS,0,0,0,0,0,0\n\nfrom,to,ia_re,ia_im,ib_re,ib_im,ic_re,ic_im,loss_p,loss_q\n\nsweeps,source_p,source_q,drawn_p,drawn_q,lost_p,lost_q\n1,0,0,0,0,0,0\n\nto,tap_a,tap_b,tap_c\n"; sweeps = 1 })
unfolding opened
zero-voltage = refl

-- ---- a number with two causes, which stand in different rows: the first row is told, whichever cause it has
-- 20: a row may be fed from a "to" that stands below it, and has no fault by that
unknown-before-later : study_of (bytes "source,va_re,va_im,vb_re,vb_im,vc_re,vc_im,tol,sweeps\nS,41,-12,53,18,53,-21,20,50\n\nfrom,to,phases,kind,p1,p2,p3,p4,p5,p6,p7,p8,p9,p10,p11,p12\nS,N3,AC,R,-2,0,8,0,0,0,0,0,0,0,0,0\nN1,N2,AB,L,1991466,1424588,160676,7968,0,0,471559,52750,0,0,0,0\nU3,N1,AB,L,1700980,1843252,408544,381108,0,0,1781133,1168260,0,0,0,0\n\nnode,phase,kind,vn,p,q\n") 1000000 ≡ Err (UnknownFrom 7)
unfolding opened
unknown-before-later = refl

-- 21: the source as "to" in one row, and a second "to" below it
source-as-to-first : study_of (bytes "source,va_re,va_im,vb_re,vb_im,vc_re,vc_im,tol,sweeps\n10,12000,0,-6000,-10392,-6000,10392,0,2\n\nfrom,to,phases,kind,p1,p2,p3,p4,p5,p6,p7,p8,p9,p10,p11,p12\n10,10,ABC,R,-13,8,11,0,0,0,0,0,0,0,0,0\n10,10,ABC,R,2,-7,10,0,0,0,0,0,0,0,0,0\n10,10,ABC,Y,3,2,996366,97740,637095,537975,314620,74977,0,0,0,0\n10,10,A,L,1536551,1578290,0,0,0,0,0,0,0,0,0,0\n\nnode,phase,kind,vn,p,q\n10,CA,P,20400,4019,3680\n") 1000000 ≡ Err (SecondTo 5)
unfolding opened
source-as-to-first = refl

-- 21: a second "to", and the source as "to" below it
second-to-first : study_of (bytes "source,va_re,va_im,vb_re,vb_im,vc_re,vc_im,tol,sweeps\nS,1500000,0,-750000,-1299000,-750000,1299000,20,1\n\nfrom,to,phases,kind,p1,p2,p3,p4,p5,p6,p7,p8,p9,p10,p11,p12\nS,N1,ABC,D,1,2400,702475,927253,450872,212271,266768,87714,0,0,0,0\nS,N1,BC,L,0,0,0,0,0,0,1113688,574646,446028,62355,1626869,44172\nN1,S,AB,L,614573,1103939,619782,330212,0,0,1233548,409799,0,0,0,0\n\nnode,phase,kind,vn,p,q\n") 1000000 ≡ Err (SecondTo 6)
unfolding opened
second-to-first = refl

-- 23: phases are those that the feeding row declares, also where that row has 23 itself
phases-as-declared : study_of (bytes "source,va_re,va_im,vb_re,vb_im,vc_re,vc_im,tol,sweeps\nAB,1500000,0,-750000,-1299000,-750000,1299000,0,100\n\nfrom,to,phases,kind,p1,p2,p3,p4,p5,p6,p7,p8,p9,p10,p11,p12\n0,11,ABC,L,-100000000,0,0,0,0,0,0,0,0,0,0,0\nA,0,ABC,Y,2400,4160,0,0,0,0,0,0,0,0,0,0\nAB,A,A,R,1,0,0,0,0,0,0,0,0,0,0,0\n\nnode,phase,kind,vn,p,q\n11,B,P,1500000,58560,-88575\nA,AB,P,300000,116089,-31840\nA,C,I,750000,11200,472798\n11,BC,Z,1800000,1169,-614\nA,B,I,300000,251227,26118\nA,CA,Z,1800000,0,-25225\nAB,C,P,1500000,245266,66331\n") 1000000 ≡ Err (PhaseAbsent 6)
unfolding opened
phases-as-declared = refl

-- 23: a Y that is not ABC, and below it a row with a phase that its from-node lacks
not-three-phase-first : study_of (bytes "source,va_re,va_im,vb_re,vb_im,vc_re,vc_im,tol,sweeps\n0,0,-500000,-500000,0,-500000,-500000,0,20\n\nfrom,to,phases,kind,p1,p2,p3,p4,p5,p6,p7,p8,p9,p10,p11,p12\nCA,B,A,L,0,0,0,0,0,0,0,0,0,0,0,0\nB,BC,A,Y,3,2,162116,194853,862772,142178,1678,142379,0,0,0,0\n0,CA,A,L,0,0,0,0,0,0,0,0,0,0,0,0\nAB,0A,ABC,L,0,0,0,0,0,0,0,0,0,0,0,0\n0,AB,AB,D,1,1,982817,39604,238798,43383,645861,381481,0,0,0,0\n\nnode,phase,kind,vn,p,q\nBC,A,I,500000,16623,16169\nAB,B,I,850000,70017,97575\nBC,A,Z,600000,24806,15868\n0A0,A,Z,720000,100,0\n") 1000000 ≡ Err (PhaseAbsent 6)
unfolding opened
not-three-phase-first = refl

-- 23: a load on an absent phase, and below it one at an unknown node
phase-before-unknown : study_of (bytes "source,va_re,va_im,vb_re,vb_im,vc_re,vc_im,tol,sweeps\nR,24,32,-60,-29,2,-18,1,100\n\nfrom,to,phases,kind,p1,p2,p3,p4,p5,p6,p7,p8,p9,p10,p11,p12\nR,S,B,L,0,0,0,0,0,0,525399,1083325,0,0,0,0\n\nnode,phase,kind,vn,p,q\nS,B,P,60,56,-37\nS,C,P,60,40,-36\nQ0692,A,Z,720000,100,0\n") 1000000 ≡ Err (PhaseAbsent 9)
unfolding opened
phase-before-unknown = refl

-- 24: a field that its kind does not use, and below it one of an absent phase
unused-before-absent : study_of (bytes "source,va_re,va_im,vb_re,vb_im,vc_re,vc_im,tol,sweeps\n0,720000,0,-360000,-623520,-360000,623520,0,20\n\nfrom,to,phases,kind,p1,p2,p3,p4,p5,p6,p7,p8,p9,p10,p11,p12\nB1,1,B,R,0,-2,0,0,0,0,0,0,0,0,0,17\n0B,B1,B,L,0,0,0,0,100000000,0,50235,1066175,0,0,0,0\n0,0B,B,L,0,0,100000000,0,0,0,1803771,557218,0,0,-1,0\n\nnode,phase,kind,vn,p,q\n0B,B,Z,360000,173826,-81201\n") 1000000 ≡ Err (NotZero 5)
unfolding opened
unused-before-absent = refl

-- 53: a current on an absent phase, and below it another on a present one
absent-before-present : checked (bytes "source,va_re,va_im,vb_re,vb_im,vc_re,vc_im,tol,sweeps\nABB,720000,0,-360000,-623520,-360000,623520,146,20\n\nfrom,to,phases,kind,p1,p2,p3,p4,p5,p6,p7,p8,p9,p10,p11,p12\nABB,AC,A,L,1475022,744797,0,0,0,0,0,0,0,0,0,0\nABB,BCB,AB,L,969338,1863067,536517,518591,0,0,1459894,1641975,0,0,0,0\n\nnode,phase,kind,vn,p,q\nABB,B,I,1224000,17032,11322\nBCB,AB,P,1224000,-114056,1077974\n") (bytes "node,va_re,va_im,vb_re,vb_im,vc_re,vc_im\nABB,720000,0,-360000,-623520,-360000,623520\nAC,720000,0,0,0,0,0\nBCB,707609,-1470,-347580,-626803,0,0\n\nfrom,to,ia_re,ia_im,ib_re,ib_im,ic_re,ic_im,loss_p,loss_q\nABB,AC,0,0,0,0,0,2000000,-2,0\nABB,BCB,36807,80347,36807,80347,0,0,1059255658,1927561795\n\nsweeps,source_p,source_q,drawn_p,drawn_q,lost_p,lost_q\n3,-9344206080,110390590080,-10403093668,108463831754,1059255658,1927561796\n") ≡ Err (CurrentDiffers 7)
unfolding opened
absent-before-present = refl

-- ---- relays (02, S-5)
-- a bandwidth of 199 counts by halves: 4·(11900² + 110²) is just above (2·12000 − 199)²
odd-band : wants_up (record { taps = no_taps; level = pos 12000; band = pos 199; potential = pos 1; current = pos 1; z = 0c }) (record { re = pos 11900; im = pos 110 }) ≡ false
unfolding opened
odd-band = refl

-- the drop of 2.5 cV by a current ratio of 2 is rounded once, to 1
drop-rounded-once : relay_voltage (record { taps = no_taps; level = pos 12000; band = pos 200; potential = pos 1; current = pos 2; z = record { re = pos 25; im = pos 0 } }) (record { re = pos 10; im = pos 0 }) (record { re = pos 1000000; im = pos 0 })
    ≡ record { re = pos 9; im = pos 0 }
unfolding opened
drop-rounded-once = refl
