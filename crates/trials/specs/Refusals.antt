-- One trial for each refusal of each call, the smallest case of the first file that has it; 9 is in TooLong. Assumes nothing.
use Rattle.std.specs.Prelude.{◌≡◌, refl, Err}
use Rattle.answers.specs.declared.Refusal.TheVariants.{Layout, OutOfLimit, UnknownFrom, SecondTo, NotReached, PhaseAbsent, NotZero, ZeroVoltage, LoadBeyond, CurrentBeyond, VoltageBeyond, NotSettled, TapsMoving, BufferShort, ReportLayout, NameDiffers, SourceDiffers, CurrentDiffers, VoltageOff, TotalDiffers, TapDiffers}
use Rattle.text.specs.Text.{bytes}
use Rattle.ladder.specs.Study.{study_of}
use Rattle.verdicts.specs.Check.{checked}
use Rattle.trials.specs.Opened.{opened}

-- 01194-both-xLF-dupline
check-10 : checked (bytes "source,va_re,va_im,vb_re,vb_im,vc_re,vc_im,tol,sweeps\nS,3,0,-1,2,-3,1,7,20\n\nfrom,to,phases,kind,p1,p2,p3,p4,p5,p6,p7,p8,p9,p10,p11,p12\nN1,N4,B,R,0,-13,0,0,0,0,0,0,0,0,0,0\nN0,N2,ABC,Y,9,1,-238095,714286,238095,275406,238095,-383218,0,0,0,0\nS,N0,ABC,D,1,6,1753,71,584,584,683,-584,0,0,0,0\nS,N3,BC,L,0,0,0,0,0,0,-4999990,-5000000,4999990,8074339,4999990,5000000\nN0,N1,BC,R,0,-10,-6,0,0,0,0,0,0,0,0,0\n\nnode,phase,kind,vn,p,q\nN2,C,Z,169,-3,3\nN0,A,P,345,2,1\n\n\n") (bytes "node,va_re,va_im,vb_re,vb_im,vc_re,vc_im\nS,3,0,-1,2,-3,1\nN4,0,0,-21,10,0,0\nN2,4,-1,-3,1,-1,-1\nN0,36,-6,-24,12,-12,-6\nN3,0,0,-1,2,-3,1\nN1,0,0,-23,11,-12,-6\n\nfrom,to,ia_re,ia_im,ib_re,ib_im,ic_re,ic_im,loss_p,loss_q\nfrom,to,ia_re,ia_im,ib_re,ib_im,ic_re,ic_im,loss_p,loss_q\nN1,N4,0,0,0,0,0,0,0,0\nN0,N2,0,0,0,0,0,21,0,-21\nS,N0,4955,-3604,0,0,0,2,8559,-1351\nS,N3,0,0,0,0,0,0,0,0\nN0,N1,0,0,0,0,0,0,0,0\n\nsweeps,source_p,source_q,drawn_p,drawn_q,lost_p,lost_q\n1,199992,100038,199983,100035,8559,-1372\n") ≡ Err (Layout 14)
unfolding opened
check-10 = refl

-- 00893-24-R-absent-tap-17, with an empty report
check-11 : checked (bytes "source,va_re,va_im,vb_re,vb_im,vc_re,vc_im,tol,sweeps\nS,720000,0,-360000,-623538,-360000,623538,1,20\n\nfrom,to,phases,kind,p1,p2,p3,p4,p5,p6,p7,p8,p9,p10,p11,p12\nS,N1,A,R,0,17,0,0,0,0,0,0,0,0,0,0\n\nnode,phase,kind,vn,p,q\n") (bytes "") ≡ Err (OutOfLimit 5)
unfolding opened
check-11 = refl

-- 01114-both-delline-cut
check-20 : checked (bytes "source,va_re,va_im,vb_re,vb_im,vc_re,vc_im,tol,sweeps\n524,11996,0,-6000,-10392,-6000,10392,1,10\n\nfrom,to,phases,kind,p1,p2,p3,p4,p5,p6,p7,p8,p9,p10,p11,p12\n524,8P,ABC,L,24299048,37159153,10954644,21733802,12637080,-30455165,51317302,-81536101,38217890,-15875512,66161031,-93559556\n524,23M,ABC,Y,240,240,0,1,0,1,0,1,0,0,0,0\nL8PF450P,B,B,L,0,0,0,0,0,0,77885988,-78996976,0,0,0,0\n8P,1IX3,BC,L,0,0,0,0,0,0,47548042,56157194,0,0,78541661,30130817\n524,ZWYL8RRK,ABC,L,42473486,78389450,17487236,10601059,30266258,20871164,78935174,53487331,12253310,-31122982,29915491,81333563\n524,Y,BC,L,0,0,0,0,0,0,4139,3936,1514,-1746,1930,2905\n524,M4SNE4R8,B,L,0,0,0,0,0,0,93150981,89244259,0,0,0,0\n524,WX,C,L,0,0,0,0,0,0,0,0,0,0,1,1\n8S,2,B,L,0,0,0,0,0,0,20622476,-48099091,0,0,0,0\n524,LPULTP0W,ABC,R,5,12,-16,0,0,0,0,0,0,0,0,0\n524,8S,ABC,L,54066496,21174745,25230955,39494432,0,0,86451363,26328468,31441034,27253808,79486349,66171982\n\nnode,phase,kind,vn,p,q\nY,B,Z,12000,0,-2190\n") (bytes "node,va_re,va_im,vb_re,vb_im,vc_re,vc_im\n524,119") ≡ Err (UnknownFrom 7)
unfolding opened
check-20 = refl

-- 00903-21-self-source, with an empty report
check-21 : checked (bytes "source,va_re,va_im,vb_re,vb_im,vc_re,vc_im,tol,sweeps\nS,720000,0,-360000,-623538,-360000,623538,1,20\n\nfrom,to,phases,kind,p1,p2,p3,p4,p5,p6,p7,p8,p9,p10,p11,p12\nS,S,A,L,0,0,0,0,0,0,0,0,0,0,0,0\n\nnode,phase,kind,vn,p,q\n") (bytes "") ≡ Err (SecondTo 5)
unfolding opened
check-21 = refl

-- 00902-22-self, with an empty report
check-22 : checked (bytes "source,va_re,va_im,vb_re,vb_im,vc_re,vc_im,tol,sweeps\nS,720000,0,-360000,-623538,-360000,623538,1,20\n\nfrom,to,phases,kind,p1,p2,p3,p4,p5,p6,p7,p8,p9,p10,p11,p12\nN,N,A,L,0,0,0,0,0,0,0,0,0,0,0,0\n\nnode,phase,kind,vn,p,q\n") (bytes "") ≡ Err (NotReached 5)
unfolding opened
check-22 = refl

-- 00895-23-Y-A, with an empty report
check-23 : checked (bytes "source,va_re,va_im,vb_re,vb_im,vc_re,vc_im,tol,sweeps\nS,720000,0,-360000,-623538,-360000,623538,1,20\n\nfrom,to,phases,kind,p1,p2,p3,p4,p5,p6,p7,p8,p9,p10,p11,p12\nS,N1,A,Y,1,1,0,0,0,0,0,0,0,0,0,0\n\nnode,phase,kind,vn,p,q\n") (bytes "") ≡ Err (PhaseAbsent 5)
unfolding opened
check-23 = refl

-- 00887-24-L-absent-1, with an empty report
check-24 : checked (bytes "source,va_re,va_im,vb_re,vb_im,vc_re,vc_im,tol,sweeps\nS,720000,0,-360000,-623538,-360000,623538,1,20\n\nfrom,to,phases,kind,p1,p2,p3,p4,p5,p6,p7,p8,p9,p10,p11,p12\nS,N1,A,L,0,0,0,0,0,0,1,0,0,0,0,0\n\nnode,phase,kind,vn,p,q\n") (bytes "") ≡ Err (NotZero 5)
unfolding opened
check-24 = refl

-- 01099-hit-zero
check-30 : checked (bytes "source,va_re,va_im,vb_re,vb_im,vc_re,vc_im,tol,sweeps\n4P,239822,-9233,-117371,-209342,-127516,214572,20,10\n\nfrom,to,phases,kind,p1,p2,p3,p4,p5,p6,p7,p8,p9,p10,p11,p12\n4P,YHE5,AB,L,433786,311304,112054,243134,0,0,826996,-465013,0,0,0,0\n\nnode,phase,kind,vn,p,q\n4P,C,Z,240000,1796,241\nYHE5,A,I,240000,31355,297\n") (bytes "node,va_re,va_im,vb_re,vb_im,vc_re,vc_im\n4P,239822,-9233,-117371,-209342,-127516,214572\nYHE5,0,0,-117532,-209652,0,0\n\nfrom,to,ia_re,ia_im,ib_re,ib_im,ic_re,ic_im,loss_p,loss_q\n4P,YHE5,0,0,0,0,0,0,0,0\n\nsweeps,source_p,source_q,drawn_p,drawn_q,lost_p,lost_q\n1,0,0,0,0,0,0\n") ≡ Err (ZeroVoltage 0)
unfolding opened
check-30 = refl

-- S-4, 00116-edit
check-31 : checked (bytes "source,va_re,va_im,vb_re,vb_im,vc_re,vc_im,tol,sweeps\n8T,708,14,-306,-674,-377,628,5,5\n\nfrom,to,phases,kind,p1,p2,p3,p4,p5,p6,p7,p8,p9,p10,p11,p12\nLDE,A7QNCI8O,A,L,1412551,1190864,0,0,0,0,0,0,0,0,0,0\n8T,Q,A,L,2787,-5665,0,0,0,0,0,0,0,0,0,0\nDX,LDE,A,L,517883,434451,0,0,0,0,0,0,0,0,0,0\nQ,DX,A,R,16,0,0,0,0,0,0,0,0,0,0,0\nA7QNCI8O,PB0V,A,L,836390,712588,0,0,0,0,0,0,0,0,0,0\n\nnode,phase,kind,vn,p,q\nDX,A,I,822,173,-14\n8T,B,Z,758,0,0\nQ,A,P,1082,51,59\nA7QNCI8O,A,Z,822,0,0\nLDE,A,P,1125,0,0\nLDE,A,Z,717,0,0\nPB0V,A,P,822,1,1\nQ,A,Z,808,0,-17\n8T,BC,Z,1282,0,0\nA7QNCI8O,A,I,822,-11,-10\n8T,B,P,740,1,0\nDX,A,Z,833,29,2\n") (bytes "node,va_re,va_im,vb_re,vb_im,vc_re,vc_im\n8T,708,14,-306,-674,-377,628\nA7QNCI8O,1203,28,0,0,0,0\nQ,-2000000,30,0,0,0,0\nLDE,891,31,0,0,0,0\nDX,777,33,0,0,0,0\nPB0V,1190,29,0,0,0,0\n\nfrom,to,ia_re,ia_im,ib_re,ib_im,ic_re,ic_im,loss_p,loss_q\nLDE,A7QNCI8O,-1281,1103,0,0,0,0,402981,340293\n8T,Q,28618,2444,0,0,0,0,218458,-479884\nDX,LDE,-1281,1103,0,0,0,0,147137,124461\nQ,DX,22950,3614,0,0,0,0,0,0\nA7QNCI8O,PB0V,86,-82,0,0,0,0,1200,980\n\nsweeps,source_p,source_q,drawn_p,drawn_q,lost_p,lost_q\n3,20395798,-1329594,19631351,-1322707,769776,-14150\n") ≡ Err (LoadBeyond 0)
unfolding opened
check-31 = refl

-- 00713-32-overflow
check-32 : checked (bytes "source,va_re,va_im,vb_re,vb_im,vc_re,vc_im,tol,sweeps\nS,2000000,0,2000000,0,2000000,0,1000,5\n\nfrom,to,phases,kind,p1,p2,p3,p4,p5,p6,p7,p8,p9,p10,p11,p12\nS,N0,ABC,Y,1,1000000,0,0,0,0,0,0,0,0,0,0\nN0,N1,ABC,Y,1,1000000,0,0,0,0,0,0,0,0,0,0\nN1,N2,ABC,Y,1,1000000,0,0,0,0,0,0,0,0,0,0\nN2,N3,ABC,Y,1,1000000,0,0,0,0,0,0,0,0,0,0\nN3,N4,ABC,Y,1,1000000,0,0,0,0,0,0,0,0,0,0\nN4,N5,ABC,Y,1,1000000,0,0,0,0,0,0,0,0,0,0\n\nnode,phase,kind,vn,p,q\nN5,A,Z,2000000,3000000,0\n") (bytes "node,va_re,va_im,vb_re,vb_im,vc_re,vc_im\nS,2000000,0,2000000,0,2000000,0\nN0,2000000,0,2000000,0,2000000,0\nN1,2000000,0,2000000,0,2000000,0\nN2,2000000,0,2000000,0,2000000,0\nN3,2000000,0,2000000,0,2000000,0\nN4,2000000,0,2000000,0,2000000,0\nN5,2000000,0,2000000,0,2000000,0\n\nfrom,to,ia_re,ia_im,ib_re,ib_im,ic_re,ic_im,loss_p,loss_q\nS,N0,0,0,0,0,0,0,0,0\nN0,N1,0,0,0,0,0,0,0,0\nN1,N2,0,0,0,0,0,0,0,0\nN2,N3,0,0,0,0,0,0,0,0\nN3,N4,0,0,0,0,0,0,0,0\nN4,N5,0,0,0,0,0,0,0,0\n\nsweeps,source_p,source_q,drawn_p,drawn_q,lost_p,lost_q\n1,0,0,0,0,0,0\n") ≡ Err (CurrentBeyond 0)
unfolding opened
check-32 = refl

-- 00603-ex-repcut0
check-50 : checked (bytes "source,va_re,va_im,vb_re,vb_im,vc_re,vc_im,tol,sweeps\nS,720000,0,-360000,-623538,-360000,623538,1,20\n\nfrom,to,phases,kind,p1,p2,p3,p4,p5,p6,p7,p8,p9,p10,p11,p12\nS,N1,A,L,1000000,0,0,0,0,0,0,0,0,0,0,0\n\nnode,phase,kind,vn,p,q\nN1,A,P,720000,72000,0\n") (bytes "") ≡ Err ReportLayout
unfolding opened
check-50 = refl

-- 00725-order-51-over-52
check-51 : checked (bytes "source,va_re,va_im,vb_re,vb_im,vc_re,vc_im,tol,sweeps\nS,720000,0,-360000,-623538,-360000,623538,1,20\n\nfrom,to,phases,kind,p1,p2,p3,p4,p5,p6,p7,p8,p9,p10,p11,p12\nS,N1,A,L,1000000,0,0,0,0,0,0,0,0,0,0,0\n\nnode,phase,kind,vn,p,q\nN1,A,P,720000,72000,0\n") (bytes "node,va_re,va_im,vb_re,vb_im,vc_re,vc_im\nS,720001,0,-360000,-623538,-360000,623538\nN2,0,0,0,0,0,0\n\nfrom,to,ia_re,ia_im,ib_re,ib_im,ic_re,ic_im,loss_p,loss_q\nS,N1,1,1,0,0,0,0,1,1\n\nsweeps,source_p,source_q,drawn_p,drawn_q,lost_p,lost_q\n1,1,1,1,1,1,1\n") ≡ Err (NameDiffers 3)
unfolding opened
check-51 = refl

-- 00724-order-52-over-30
check-52 : checked (bytes "source,va_re,va_im,vb_re,vb_im,vc_re,vc_im,tol,sweeps\nS,720000,0,-360000,-623538,-360000,623538,1,20\n\nfrom,to,phases,kind,p1,p2,p3,p4,p5,p6,p7,p8,p9,p10,p11,p12\nS,N1,A,L,1000000,0,0,0,0,0,0,0,0,0,0,0\n\nnode,phase,kind,vn,p,q\nN1,A,P,720000,72000,0\n") (bytes "node,va_re,va_im,vb_re,vb_im,vc_re,vc_im\nS,720001,0,-360000,-623538,-360000,623538\nN1,0,0,0,0,0,0\n\nfrom,to,ia_re,ia_im,ib_re,ib_im,ic_re,ic_im,loss_p,loss_q\nS,N1,1,1,0,0,0,0,1,1\n\nsweeps,source_p,source_q,drawn_p,drawn_q,lost_p,lost_q\n1,1,1,1,1,1,1\n") ≡ Err (SourceDiffers 2)
unfolding opened
check-52 = refl

-- 00719-32-check-J-3599
check-53 : checked (bytes "source,va_re,va_im,vb_re,vb_im,vc_re,vc_im,tol,sweeps\nS,720000,0,-360000,-623538,-360000,623538,1,20\n\nfrom,to,phases,kind,p1,p2,p3,p4,p5,p6,p7,p8,p9,p10,p11,p12\nS,N1,A,R,16,0,0,0,0,0,0,0,0,0,0,0\n\nnode,phase,kind,vn,p,q\nN1,A,P,720000,72000,0\n") (bytes "node,va_re,va_im,vb_re,vb_im,vc_re,vc_im\nS,720000,0,-360000,-623538,-360000,623538\nN1,3599,0,0,0,0,0\n\nfrom,to,ia_re,ia_im,ib_re,ib_im,ic_re,ic_im,loss_p,loss_q\nS,N1,0,0,0,0,0,0,0,0\n\nsweeps,source_p,source_q,drawn_p,drawn_q,lost_p,lost_q\n1,0,0,0,0,0,0\n") ≡ Err (CurrentDiffers 6)
unfolding opened
check-53 = refl

-- 00976-moved-tol+1
check-54 : checked (bytes "source,va_re,va_im,vb_re,vb_im,vc_re,vc_im,tol,sweeps\nS,2,-1,3,-3,-2,1,1,20\n\nfrom,to,phases,kind,p1,p2,p3,p4,p5,p6,p7,p8,p9,p10,p11,p12\nS,N0,ABC,D,5,5,354528,206965,-937500,-91056,937500,-937500,0,0,0,0\n\nnode,phase,kind,vn,p,q\nN0,A,I,31428,3,1\nS,C,I,42,1,1\nS,B,P,278,0,2\n") (bytes "node,va_re,va_im,vb_re,vb_im,vc_re,vc_im\nS,2,-1,3,-3,-2,1\nN0,6,-2,1,-2,-5,4\n\nfrom,to,ia_re,ia_im,ib_re,ib_im,ic_re,ic_im,loss_p,loss_q\nS,N0,8,-6,0,0,0,0,0,0\n\nsweeps,source_p,source_q,drawn_p,drawn_q,lost_p,lost_q\n14,5995,205958,6011,205970,0,0\n") ≡ Err (VoltageOff 3)
unfolding opened
check-54 = refl

-- 00988-tiny-own
check-55 : checked (bytes "source,va_re,va_im,vb_re,vb_im,vc_re,vc_im,tol,sweeps\nS,22,-36,6,-13,29,34,2,20\n\nfrom,to,phases,kind,p1,p2,p3,p4,p5,p6,p7,p8,p9,p10,p11,p12\n\nnode,phase,kind,vn,p,q\nS,C,I,1292,0,3\nS,B,P,476,0,-3\n") (bytes "node,va_re,va_im,vb_re,vb_im,vc_re,vc_im\nS,22,-36,6,-13,29,34\n\nfrom,to,ia_re,ia_im,ib_re,ib_im,ic_re,ic_im,loss_p,loss_q\n\nsweeps,source_p,source_q,drawn_p,drawn_q,lost_p,lost_q\n1,-7,-289469,-7,-289469,0,0\n") ≡ Err TotalDiffers
unfolding opened
check-55 = refl

-- S-5, 00483-wants-down-at-16
check-56 : checked (bytes "source,va_re,va_im,vb_re,vb_im,vc_re,vc_im,tol,sweeps\nS,720000,0,-360000,-623538,-360000,623538,1,20\n\nfrom,to,phases,kind,p1,p2,p3,p4,p5,p6,p7,p8,p9,p10,p11,p12\nS,N1,A,R,16,0,0,1,0,60,100,0,0,0,0,0\n\nnode,phase,kind,vn,p,q\n") (bytes "node,va_re,va_im,vb_re,vb_im,vc_re,vc_im\nS,720000,0,-360000,-623538,-360000,623538\nN1,800000,0,0,0,0,0\n\nfrom,to,ia_re,ia_im,ib_re,ib_im,ic_re,ic_im,loss_p,loss_q\nS,N1,0,0,0,0,0,0,0,0\n\nsweeps,source_p,source_q,drawn_p,drawn_q,lost_p,lost_q\n1,0,0,0,0,0,0\n\nto,tap_a,tap_b,tap_c\nN1,16,0,0\n") ≡ Err (TapDiffers 12)
unfolding opened
check-56 = refl

-- 00507-ex-cut150
study-10 : study_of (bytes "source,va_re,va_im,vb_re,vb_im,vc_re,vc_im,tol,sweeps\nS,720000,0,-360000,-623538,-360000,623538,1,20\n\nfrom,to,phases,kind,p1,p2,p3,p4,p5,p6,p7,p8,p9,p") 1000000 ≡ Err (Layout 4)
unfolding opened
study-10 = refl

-- 00893-24-R-absent-tap-17
study-11 : study_of (bytes "source,va_re,va_im,vb_re,vb_im,vc_re,vc_im,tol,sweeps\nS,720000,0,-360000,-623538,-360000,623538,1,20\n\nfrom,to,phases,kind,p1,p2,p3,p4,p5,p6,p7,p8,p9,p10,p11,p12\nS,N1,A,R,0,17,0,0,0,0,0,0,0,0,0,0\n\nnode,phase,kind,vn,p,q\n") 1000000 ≡ Err (OutOfLimit 5)
unfolding opened
study-11 = refl

-- 00904-20-over-21
study-20 : study_of (bytes "source,va_re,va_im,vb_re,vb_im,vc_re,vc_im,tol,sweeps\nS,720000,0,-360000,-623538,-360000,623538,1,20\n\nfrom,to,phases,kind,p1,p2,p3,p4,p5,p6,p7,p8,p9,p10,p11,p12\nS,N,A,L,0,0,0,0,0,0,0,0,0,0,0,0\nS,N,A,L,0,0,0,0,0,0,0,0,0,0,0,0\nQ,M,A,L,0,0,0,0,0,0,0,0,0,0,0,0\n\nnode,phase,kind,vn,p,q\n") 1000000 ≡ Err (UnknownFrom 7)
unfolding opened
study-20 = refl

-- 00903-21-self-source
study-21 : study_of (bytes "source,va_re,va_im,vb_re,vb_im,vc_re,vc_im,tol,sweeps\nS,720000,0,-360000,-623538,-360000,623538,1,20\n\nfrom,to,phases,kind,p1,p2,p3,p4,p5,p6,p7,p8,p9,p10,p11,p12\nS,S,A,L,0,0,0,0,0,0,0,0,0,0,0,0\n\nnode,phase,kind,vn,p,q\n") 1000000 ≡ Err (SecondTo 5)
unfolding opened
study-21 = refl

-- 00902-22-self
study-22 : study_of (bytes "source,va_re,va_im,vb_re,vb_im,vc_re,vc_im,tol,sweeps\nS,720000,0,-360000,-623538,-360000,623538,1,20\n\nfrom,to,phases,kind,p1,p2,p3,p4,p5,p6,p7,p8,p9,p10,p11,p12\nN,N,A,L,0,0,0,0,0,0,0,0,0,0,0,0\n\nnode,phase,kind,vn,p,q\n") 1000000 ≡ Err (NotReached 5)
unfolding opened
study-22 = refl

-- 00895-23-Y-A
study-23 : study_of (bytes "source,va_re,va_im,vb_re,vb_im,vc_re,vc_im,tol,sweeps\nS,720000,0,-360000,-623538,-360000,623538,1,20\n\nfrom,to,phases,kind,p1,p2,p3,p4,p5,p6,p7,p8,p9,p10,p11,p12\nS,N1,A,Y,1,1,0,0,0,0,0,0,0,0,0,0\n\nnode,phase,kind,vn,p,q\n") 1000000 ≡ Err (PhaseAbsent 5)
unfolding opened
study-23 = refl

-- 00887-24-L-absent-1
study-24 : study_of (bytes "source,va_re,va_im,vb_re,vb_im,vc_re,vc_im,tol,sweeps\nS,720000,0,-360000,-623538,-360000,623538,1,20\n\nfrom,to,phases,kind,p1,p2,p3,p4,p5,p6,p7,p8,p9,p10,p11,p12\nS,N1,A,L,0,0,0,0,0,0,1,0,0,0,0,0\n\nnode,phase,kind,vn,p,q\n") 1000000 ≡ Err (NotZero 5)
unfolding opened
study-24 = refl

-- 00046-30-source-load
study-30 : study_of (bytes "source,va_re,va_im,vb_re,vb_im,vc_re,vc_im,tol,sweeps\nS,0,0,-360000,-623538,-360000,623538,1,20\n\nfrom,to,phases,kind,p1,p2,p3,p4,p5,p6,p7,p8,p9,p10,p11,p12\nS,N1,A,L,0,0,0,0,0,0,0,0,0,0,0,0\n\nnode,phase,kind,vn,p,q\nS,A,I,720000,1,0\n") 1000000 ≡ Err (ZeroVoltage 1)
unfolding opened
study-30 = refl

-- 00089-31-half-up
study-31 : study_of (bytes "source,va_re,va_im,vb_re,vb_im,vc_re,vc_im,tol,sweeps\nS,200000,0,-360000,-623538,-360000,623538,1,20\n\nfrom,to,phases,kind,p1,p2,p3,p4,p5,p6,p7,p8,p9,p10,p11,p12\nS,N1,A,L,0,0,0,0,0,0,0,0,0,0,0,0\n\nnode,phase,kind,vn,p,q\nN1,A,Z,1,3000000,0\n") 1000000 ≡ Err (LoadBeyond 1)
unfolding opened
study-31 = refl

-- 00132-32-J-reg-1800001
study-32 : study_of (bytes "source,va_re,va_im,vb_re,vb_im,vc_re,vc_im,tol,sweeps\nS,90000,0,90000,0,90000,0,1,20\n\nfrom,to,phases,kind,p1,p2,p3,p4,p5,p6,p7,p8,p9,p10,p11,p12\nS,N1,A,R,16,0,0,0,0,0,0,0,0,0,0,0\n\nnode,phase,kind,vn,p,q\nN1,A,P,100000,1800001,0\n") 1000000 ≡ Err (CurrentBeyond 1)
unfolding opened
study-32 = refl

-- 00170-33-V0-reg-half-down
study-33 : study_of (bytes "source,va_re,va_im,vb_re,vb_im,vc_re,vc_im,tol,sweeps\nS,1990000,0,0,0,0,0,1,20\n\nfrom,to,phases,kind,p1,p2,p3,p4,p5,p6,p7,p8,p9,p10,p11,p12\nS,N,A,R,1,0,0,0,0,0,0,0,0,0,0,0\n\nnode,phase,kind,vn,p,q\n") 1000000 ≡ Err (VoltageBeyond 0)
unfolding opened
study-33 = refl

-- 00205-34-limit1
study-34 : study_of (bytes "source,va_re,va_im,vb_re,vb_im,vc_re,vc_im,tol,sweeps\nS,720000,0,-360000,-623538,-360000,623538,1,1\n\nfrom,to,phases,kind,p1,p2,p3,p4,p5,p6,p7,p8,p9,p10,p11,p12\nS,N1,A,L,1000000,0,0,0,0,0,0,0,0,0,0,0\n\nnode,phase,kind,vn,p,q\nN1,A,P,720000,72000,0\n") 1000000 ≡ Err (NotSettled 1)
unfolding opened
study-34 = refl

-- S-5, 00233-down-from-16
study-35 : study_of (bytes "source,va_re,va_im,vb_re,vb_im,vc_re,vc_im,tol,sweeps\nS,720000,0,-360000,-623538,-360000,623538,1,20\n\nfrom,to,phases,kind,p1,p2,p3,p4,p5,p6,p7,p8,p9,p10,p11,p12\nS,N1,A,R,16,0,0,1,0,60,100,0,0,0,0,0\n\nnode,phase,kind,vn,p,q\n") 1000000 ≡ Err (TapsMoving 32)
unfolding opened
study-35 = refl

-- 00010-source-alone-buf0
study-40 : study_of (bytes "source,va_re,va_im,vb_re,vb_im,vc_re,vc_im,tol,sweeps\nS,720000,0,-360000,-623538,-360000,623538,1,20\n\nfrom,to,phases,kind,p1,p2,p3,p4,p5,p6,p7,p8,p9,p10,p11,p12\n\nnode,phase,kind,vn,p,q\n") 0 ≡ Err (BufferShort 234)
unfolding opened
study-40 = refl
