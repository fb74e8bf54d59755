-- Vectors: checks of reports with taps, and of reports without their table. Assumes nothing.
use Rattle.answers.specs.Answers.{done}
use Rattle.std.specs.Prelude.{◌≡◌, refl, Ok, Err}
use Rattle.answers.specs.declared.Refusal.TheVariants.{ReportLayout, NameDiffers, SourceDiffers, CurrentDiffers, VoltageOff, TotalDiffers, TapDiffers}
use Rattle.text.specs.Text.{bytes}
use Rattle.verdicts.specs.Check.{checked}
use Rattle.trials.specs.Opened.{opened}

-- S-5, 00490-without-none
v5-00490 : checked (bytes "source,va_re,va_im,vb_re,vb_im,vc_re,vc_im,tol,sweeps\nS,720000,0,-360000,-623538,-360000,623538,1,20\n\nfrom,to,phases,kind,p1,p2,p3,p4,p5,p6,p7,p8,p9,p10,p11,p12\nS,N1,A,L,1000000,0,0,0,0,0,0,0,0,0,0,0\n\nnode,phase,kind,vn,p,q\nN1,A,P,720000,72000,0\n") (bytes "node,va_re,va_im,vb_re,vb_im,vc_re,vc_im\nS,720000,0,-360000,-623538,-360000,623538\nN1,719000,0,0,0,0,0\n\nfrom,to,ia_re,ia_im,ib_re,ib_im,ic_re,ic_im,loss_p,loss_q\nS,N1,10014,0,0,0,0,0,10024014,0\n\nsweeps,source_p,source_q,drawn_p,drawn_q,lost_p,lost_q\n2,7210080000,0,7200066000,0,10024014,0\n") ≡ Ok done
unfolding opened
v5-00490 = refl

-- S-5, 00497-without-fixed
v5-00497 : checked (bytes "source,va_re,va_im,vb_re,vb_im,vc_re,vc_im,tol,sweeps\nS,720000,0,-360000,-623538,-360000,623538,1,20\n\nfrom,to,phases,kind,p1,p2,p3,p4,p5,p6,p7,p8,p9,p10,p11,p12\nS,N1,AB,R,5,-3,0,0,0,0,0,0,0,0,0,0\n\nnode,phase,kind,vn,p,q\nN1,A,P,720000,72000,0\n") (bytes "node,va_re,va_im,vb_re,vb_im,vc_re,vc_im\nS,720000,0,-360000,-623538,-360000,623538\nN1,743226,0,-353374,-612062,0,0\n\nfrom,to,ia_re,ia_im,ib_re,ib_im,ic_re,ic_im,loss_p,loss_q\nS,N1,9687,0,0,0,0,0,0,0\n\nsweeps,source_p,source_q,drawn_p,drawn_q,lost_p,lost_q\n1,7199280000,0,7199630262,0,0,0\n") ≡ Ok done
unfolding opened
v5-00497 = refl

-- S-5, 00499-without-fixed-LF
v5-00499 : checked (bytes "source,va_re,va_im,vb_re,vb_im,vc_re,vc_im,tol,sweeps\nS,720000,0,-360000,-623538,-360000,623538,1,20\n\nfrom,to,phases,kind,p1,p2,p3,p4,p5,p6,p7,p8,p9,p10,p11,p12\nS,N1,AB,R,5,-3,0,0,0,0,0,0,0,0,0,0\n\nnode,phase,kind,vn,p,q\nN1,A,P,720000,72000,0\n") (bytes "node,va_re,va_im,vb_re,vb_im,vc_re,vc_im\nS,720000,0,-360000,-623538,-360000,623538\nN1,743226,0,-353374,-612062,0,0\n\nfrom,to,ia_re,ia_im,ib_re,ib_im,ic_re,ic_im,loss_p,loss_q\nS,N1,9687,0,0,0,0,0,0,0\n\nsweeps,source_p,source_q,drawn_p,drawn_q,lost_p,lost_q\n1,7199280000,0,7199630262,0,0,0\n\n") ≡ Err ReportLayout
unfolding opened
v5-00499 = refl

-- S-5, 00500-without-fixed-edit
v5-00500 : checked (bytes "source,va_re,va_im,vb_re,vb_im,vc_re,vc_im,tol,sweeps\nS,720000,0,-360000,-623538,-360000,623538,1,20\n\nfrom,to,phases,kind,p1,p2,p3,p4,p5,p6,p7,p8,p9,p10,p11,p12\nS,N1,AB,R,5,-3,0,0,0,0,0,0,0,0,0,0\n\nnode,phase,kind,vn,p,q\nN1,A,P,720000,72000,0\n") (bytes "node,va_re,va_im,vb_re,vb_im,vc_re,vc_im\nS,720003,0,-360000,-623538,-360000,623538\nN1,743226,0,-353374,-612062,0,0\n\nfrom,to,ia_re,ia_im,ib_re,ib_im,ic_re,ic_im,loss_p,loss_q\nS,N1,9687,0,0,0,0,0,0,0\n\nsweeps,source_p,source_q,drawn_p,drawn_q,lost_p,lost_q\n1,7199280000,0,7199630262,0,0,0\n") ≡ Err (SourceDiffers 2)
unfolding opened
v5-00500 = refl

-- S-5, 00504-without-level
v5-00504 : checked (bytes "source,va_re,va_im,vb_re,vb_im,vc_re,vc_im,tol,sweeps\nS,720000,0,-360000,-623538,-360000,623538,1,20\n\nfrom,to,phases,kind,p1,p2,p3,p4,p5,p6,p7,p8,p9,p10,p11,p12\nS,N1,A,R,0,0,0,12000,300,60,100,0,0,0,0,0\n\nnode,phase,kind,vn,p,q\nN1,A,P,720000,5000,0\n") (bytes "node,va_re,va_im,vb_re,vb_im,vc_re,vc_im\nS,720000,0,-360000,-623538,-360000,623538\nN1,720000,0,0,0,0,0\n\nfrom,to,ia_re,ia_im,ib_re,ib_im,ic_re,ic_im,loss_p,loss_q\nS,N1,694,0,0,0,0,0,0,0\n\nsweeps,source_p,source_q,drawn_p,drawn_q,lost_p,lost_q\n1,499680000,0,499680000,0,0,0\n") ≡ Err ReportLayout
unfolding opened
v5-00504 = refl

-- S-5, 00510-without-mixed
v5-00510 : checked (bytes "source,va_re,va_im,vb_re,vb_im,vc_re,vc_im,tol,sweeps\nS,720000,0,-360000,-623538,-360000,623538,1,20\n\nfrom,to,phases,kind,p1,p2,p3,p4,p5,p6,p7,p8,p9,p10,p11,p12\nS,N1,A,R,0,0,0,12000,300,60,100,0,0,0,0,0\nN1,N2,A,R,4,0,0,0,0,0,0,0,0,0,0,0\n\nnode,phase,kind,vn,p,q\n") (bytes "node,va_re,va_im,vb_re,vb_im,vc_re,vc_im\nS,720000,0,-360000,-623538,-360000,623538\nN1,720000,0,0,0,0,0\nN2,738462,0,0,0,0,0\n\nfrom,to,ia_re,ia_im,ib_re,ib_im,ic_re,ic_im,loss_p,loss_q\nS,N1,0,0,0,0,0,0,0,0\nN1,N2,0,0,0,0,0,0,0,0\n\nsweeps,source_p,source_q,drawn_p,drawn_q,lost_p,lost_q\n1,0,0,0,0,0,0\n") ≡ Err ReportLayout
unfolding opened
v5-00510 = refl

-- S-5, 00521-fixed-taps-other-without
v5-00521 : checked (bytes "source,va_re,va_im,vb_re,vb_im,vc_re,vc_im,tol,sweeps\nS,720000,0,-360000,-623538,-360000,623538,1,20\n\nfrom,to,phases,kind,p1,p2,p3,p4,p5,p6,p7,p8,p9,p10,p11,p12\nS,N1,AB,R,5,-3,0,0,0,0,0,0,0,0,0,0\n\nnode,phase,kind,vn,p,q\nN1,A,P,720000,72000,0\n") (bytes "node,va_re,va_im,vb_re,vb_im,vc_re,vc_im\nS,720000,0,-360000,-623538,-360000,623538\nN1,748052,0,-353374,-612062,0,0\n\nfrom,to,ia_re,ia_im,ib_re,ib_im,ic_re,ic_im,loss_p,loss_q\nS,N1,9625,0,0,0,0,0,0,0\n\nsweeps,source_p,source_q,drawn_p,drawn_q,lost_p,lost_q\n1,7200000000,0,7200000500,0,0,0\n") ≡ Err (VoltageOff 3)
unfolding opened
v5-00521 = refl

-- S-5, 00346-settled-at-other-01+1
v5-00346 : checked (bytes "source,va_re,va_im,vb_re,vb_im,vc_re,vc_im,tol,sweeps\nS,700000,10,-340000,-640000,-380000,600000,1,40\n\nfrom,to,phases,kind,p1,p2,p3,p4,p5,p6,p7,p8,p9,p10,p11,p12\nS,R1,ABC,R,0,0,0,12000,150,60,200,1460000,2840000,0,0,0\nR1,L1,ABC,L,300000,600000,100000,200000,90000,180000,300000,600000,80000,170000,300000,600000\nL1,R2,AC,R,3,0,-2,12200,250,60,100,300000,100000,0,0,0\nL1,R3,AB,R,5,-5,0,0,0,0,0,0,0,0,0,0\nR2,E,AC,L,500000,500000,0,0,0,0,0,0,0,0,500000,500000\n\nnode,phase,kind,vn,p,q\nL1,A,P,720000,400000,100000\nL1,B,P,720000,400000,100000\nE,A,P,720000,400000,100000\nE,C,P,720000,400000,100000\nR3,B,P,720000,400000,100000\n") (bytes "node,va_re,va_im,vb_re,vb_im,vc_re,vc_im\nS,700000,10,-340000,-640000,-380000,600000\nR1,727273,10,-342138,-644025,-384810,607595\nL1,722480,-3587,-345469,-638982,-383304,607257\nR2,736285,-3656,0,0,-388156,614944\nR3,745786,-3703,-335000,-619619,0,0\nE,732858,-5676,0,0,-384565,613119\n\nfrom,to,ia_re,ia_im,ib_re,ib_im,ic_re,ic_im,loss_p,loss_q\nS,R1,110808,-28452,-76598,-83786,-17886,54848,0,0\nR1,L1,110808,-28452,-76598,-83786,-17886,54848,641620700,1276877312\nL1,R2,54472,-14067,0,0,-17662,54162,0,0\nL1,R3,0,0,-39496,-43202,0,0,0,0\nR2,E,54472,-14067,0,0,-17662,54162,320530096,320503641\n\nsweeps,source_p,source_q,drawn_p,drawn_q,lost_p,lost_q\n1,200962484390,51597391250,200000119463,49999457506,962150796,1597380953\n\nto,tap_a,tap_b,tap_c\nR1,6,1,2\nR2,3,0,2\nR3,5,-5,0\n") ≡ Ok done
unfolding opened
v5-00346 = refl

-- S-5, 00485-wants-down-at--16
v5-00485 : checked (bytes "source,va_re,va_im,vb_re,vb_im,vc_re,vc_im,tol,sweeps\nS,720000,0,-360000,-623538,-360000,623538,1,20\n\nfrom,to,phases,kind,p1,p2,p3,p4,p5,p6,p7,p8,p9,p10,p11,p12\nS,N1,A,R,16,0,0,1,0,60,100,0,0,0,0,0\n\nnode,phase,kind,vn,p,q\n") (bytes "node,va_re,va_im,vb_re,vb_im,vc_re,vc_im\nS,720000,0,-360000,-623538,-360000,623538\nN1,654545,0,0,0,0,0\n\nfrom,to,ia_re,ia_im,ib_re,ib_im,ic_re,ic_im,loss_p,loss_q\nS,N1,0,0,0,0,0,0,0,0\n\nsweeps,source_p,source_q,drawn_p,drawn_q,lost_p,lost_q\n1,0,0,0,0,0,0\n\nto,tap_a,tap_b,tap_c\nN1,-16,0,0\n") ≡ Ok done
unfolding opened
v5-00485 = refl

-- S-5, 00272-rows-swapped
v5-00272 : checked (bytes "source,va_re,va_im,vb_re,vb_im,vc_re,vc_im,tol,sweeps\nS,700000,10,-340000,-640000,-380000,600000,1,40\n\nfrom,to,phases,kind,p1,p2,p3,p4,p5,p6,p7,p8,p9,p10,p11,p12\nS,R1,ABC,R,0,0,0,12000,150,60,200,1460000,2840000,0,0,0\nR1,L1,ABC,L,300000,600000,100000,200000,90000,180000,300000,600000,80000,170000,300000,600000\nL1,R2,AC,R,3,0,-2,12200,250,60,100,300000,100000,0,0,0\nL1,R3,AB,R,5,-5,0,0,0,0,0,0,0,0,0,0\nR2,E,AC,L,500000,500000,0,0,0,0,0,0,0,0,500000,500000\n\nnode,phase,kind,vn,p,q\nL1,A,P,720000,400000,100000\nL1,B,P,720000,400000,100000\nE,A,P,720000,400000,100000\nE,C,P,720000,400000,100000\nR3,B,P,720000,400000,100000\n") (bytes "node,va_re,va_im,vb_re,vb_im,vc_re,vc_im\nS,700000,10,-340000,-640000,-380000,600000\nR1,727273,10,-340000,-640000,-384810,607595\nL1,722475,-3571,-343347,-634912,-383309,607269\nR2,736280,-3639,0,0,-388161,614956\nR3,745781,-3686,-332943,-615672,0,0\nE,732854,-5659,0,0,-384570,613131\n\nfrom,to,ia_re,ia_im,ib_re,ib_im,ic_re,ic_im,loss_p,loss_q\nS,R1,110809,-28450,-77094,-84311,-17885,54847,0,0\nR1,L1,110809,-28450,-77094,-84311,-17885,54847,645504250,1284436058\nL1,R2,54473,-14066,0,0,-17661,54161,0,0\nL1,R3,0,0,-39752,-43473,0,0,0,0\nR2,E,54473,-14066,0,0,-17661,54161,320530127,320500468\n\nsweeps,source_p,source_q,drawn_p,drawn_q,lost_p,lost_q\n3,200965684420,51605151260,199999665248,50000849400,966034377,1604936526\n\nto,tap_a,tap_b,tap_c\nR3,5,-5,0\nR2,3,0,2\nR1,6,0,2\n") ≡ Err ReportLayout
unfolding opened
v5-00272 = refl

-- S-5, 00273-row-missing
v5-00273 : checked (bytes "source,va_re,va_im,vb_re,vb_im,vc_re,vc_im,tol,sweeps\nS,700000,10,-340000,-640000,-380000,600000,1,40\n\nfrom,to,phases,kind,p1,p2,p3,p4,p5,p6,p7,p8,p9,p10,p11,p12\nS,R1,ABC,R,0,0,0,12000,150,60,200,1460000,2840000,0,0,0\nR1,L1,ABC,L,300000,600000,100000,200000,90000,180000,300000,600000,80000,170000,300000,600000\nL1,R2,AC,R,3,0,-2,12200,250,60,100,300000,100000,0,0,0\nL1,R3,AB,R,5,-5,0,0,0,0,0,0,0,0,0,0\nR2,E,AC,L,500000,500000,0,0,0,0,0,0,0,0,500000,500000\n\nnode,phase,kind,vn,p,q\nL1,A,P,720000,400000,100000\nL1,B,P,720000,400000,100000\nE,A,P,720000,400000,100000\nE,C,P,720000,400000,100000\nR3,B,P,720000,400000,100000\n") (bytes "node,va_re,va_im,vb_re,vb_im,vc_re,vc_im\nS,700000,10,-340000,-640000,-380000,600000\nR1,727273,10,-340000,-640000,-384810,607595\nL1,722475,-3571,-343347,-634912,-383309,607269\nR2,736280,-3639,0,0,-388161,614956\nR3,745781,-3686,-332943,-615672,0,0\nE,732854,-5659,0,0,-384570,613131\n\nfrom,to,ia_re,ia_im,ib_re,ib_im,ic_re,ic_im,loss_p,loss_q\nS,R1,110809,-28450,-77094,-84311,-17885,54847,0,0\nR1,L1,110809,-28450,-77094,-84311,-17885,54847,645504250,1284436058\nL1,R2,54473,-14066,0,0,-17661,54161,0,0\nL1,R3,0,0,-39752,-43473,0,0,0,0\nR2,E,54473,-14066,0,0,-17661,54161,320530127,320500468\n\nsweeps,source_p,source_q,drawn_p,drawn_q,lost_p,lost_q\n3,200965684420,51605151260,199999665248,50000849400,966034377,1604936526\n\nto,tap_a,tap_b,tap_c\nR1,6,0,2\nR2,3,0,2\n") ≡ Err ReportLayout
unfolding opened
v5-00273 = refl

-- S-5, 00274-row-extra
v5-00274 : checked (bytes "source,va_re,va_im,vb_re,vb_im,vc_re,vc_im,tol,sweeps\nS,700000,10,-340000,-640000,-380000,600000,1,40\n\nfrom,to,phases,kind,p1,p2,p3,p4,p5,p6,p7,p8,p9,p10,p11,p12\nS,R1,ABC,R,0,0,0,12000,150,60,200,1460000,2840000,0,0,0\nR1,L1,ABC,L,300000,600000,100000,200000,90000,180000,300000,600000,80000,170000,300000,600000\nL1,R2,AC,R,3,0,-2,12200,250,60,100,300000,100000,0,0,0\nL1,R3,AB,R,5,-5,0,0,0,0,0,0,0,0,0,0\nR2,E,AC,L,500000,500000,0,0,0,0,0,0,0,0,500000,500000\n\nnode,phase,kind,vn,p,q\nL1,A,P,720000,400000,100000\nL1,B,P,720000,400000,100000\nE,A,P,720000,400000,100000\nE,C,P,720000,400000,100000\nR3,B,P,720000,400000,100000\n") (bytes "node,va_re,va_im,vb_re,vb_im,vc_re,vc_im\nS,700000,10,-340000,-640000,-380000,600000\nR1,727273,10,-340000,-640000,-384810,607595\nL1,722475,-3571,-343347,-634912,-383309,607269\nR2,736280,-3639,0,0,-388161,614956\nR3,745781,-3686,-332943,-615672,0,0\nE,732854,-5659,0,0,-384570,613131\n\nfrom,to,ia_re,ia_im,ib_re,ib_im,ic_re,ic_im,loss_p,loss_q\nS,R1,110809,-28450,-77094,-84311,-17885,54847,0,0\nR1,L1,110809,-28450,-77094,-84311,-17885,54847,645504250,1284436058\nL1,R2,54473,-14066,0,0,-17661,54161,0,0\nL1,R3,0,0,-39752,-43473,0,0,0,0\nR2,E,54473,-14066,0,0,-17661,54161,320530127,320500468\n\nsweeps,source_p,source_q,drawn_p,drawn_q,lost_p,lost_q\n3,200965684420,51605151260,199999665248,50000849400,966034377,1604936526\n\nto,tap_a,tap_b,tap_c\nR1,6,0,2\nR2,3,0,2\nR3,5,-5,0\nR3,5,-5,0\n") ≡ Err ReportLayout
unfolding opened
v5-00274 = refl

-- S-5, 00279-tail
v5-00279 : checked (bytes "source,va_re,va_im,vb_re,vb_im,vc_re,vc_im,tol,sweeps\nS,700000,10,-340000,-640000,-380000,600000,1,40\n\nfrom,to,phases,kind,p1,p2,p3,p4,p5,p6,p7,p8,p9,p10,p11,p12\nS,R1,ABC,R,0,0,0,12000,150,60,200,1460000,2840000,0,0,0\nR1,L1,ABC,L,300000,600000,100000,200000,90000,180000,300000,600000,80000,170000,300000,600000\nL1,R2,AC,R,3,0,-2,12200,250,60,100,300000,100000,0,0,0\nL1,R3,AB,R,5,-5,0,0,0,0,0,0,0,0,0,0\nR2,E,AC,L,500000,500000,0,0,0,0,0,0,0,0,500000,500000\n\nnode,phase,kind,vn,p,q\nL1,A,P,720000,400000,100000\nL1,B,P,720000,400000,100000\nE,A,P,720000,400000,100000\nE,C,P,720000,400000,100000\nR3,B,P,720000,400000,100000\n") (bytes "node,va_re,va_im,vb_re,vb_im,vc_re,vc_im\nS,700000,10,-340000,-640000,-380000,600000\nR1,727273,10,-340000,-640000,-384810,607595\nL1,722475,-3571,-343347,-634912,-383309,607269\nR2,736280,-3639,0,0,-388161,614956\nR3,745781,-3686,-332943,-615672,0,0\nE,732854,-5659,0,0,-384570,613131\n\nfrom,to,ia_re,ia_im,ib_re,ib_im,ic_re,ic_im,loss_p,loss_q\nS,R1,110809,-28450,-77094,-84311,-17885,54847,0,0\nR1,L1,110809,-28450,-77094,-84311,-17885,54847,645504250,1284436058\nL1,R2,54473,-14066,0,0,-17661,54161,0,0\nL1,R3,0,0,-39752,-43473,0,0,0,0\nR2,E,54473,-14066,0,0,-17661,54161,320530127,320500468\n\nsweeps,source_p,source_q,drawn_p,drawn_q,lost_p,lost_q\n3,200965684420,51605151260,199999665248,50000849400,966034377,1604936526\n\nto,tap_a,tap_b,tap_c\nR1,6,0,2\nR2,3,0,2\nR3,5,-5,0\n\n") ≡ Err ReportLayout
unfolding opened
v5-00279 = refl

-- S-5, 00280-name
v5-00280 : checked (bytes "source,va_re,va_im,vb_re,vb_im,vc_re,vc_im,tol,sweeps\nS,700000,10,-340000,-640000,-380000,600000,1,40\n\nfrom,to,phases,kind,p1,p2,p3,p4,p5,p6,p7,p8,p9,p10,p11,p12\nS,R1,ABC,R,0,0,0,12000,150,60,200,1460000,2840000,0,0,0\nR1,L1,ABC,L,300000,600000,100000,200000,90000,180000,300000,600000,80000,170000,300000,600000\nL1,R2,AC,R,3,0,-2,12200,250,60,100,300000,100000,0,0,0\nL1,R3,AB,R,5,-5,0,0,0,0,0,0,0,0,0,0\nR2,E,AC,L,500000,500000,0,0,0,0,0,0,0,0,500000,500000\n\nnode,phase,kind,vn,p,q\nL1,A,P,720000,400000,100000\nL1,B,P,720000,400000,100000\nE,A,P,720000,400000,100000\nE,C,P,720000,400000,100000\nR3,B,P,720000,400000,100000\n") (bytes "node,va_re,va_im,vb_re,vb_im,vc_re,vc_im\nS,700000,10,-340000,-640000,-380000,600000\nR1,727273,10,-340000,-640000,-384810,607595\nL1,722475,-3571,-343347,-634912,-383309,607269\nR2,736280,-3639,0,0,-388161,614956\nR3,745781,-3686,-332943,-615672,0,0\nE,732854,-5659,0,0,-384570,613131\n\nfrom,to,ia_re,ia_im,ib_re,ib_im,ic_re,ic_im,loss_p,loss_q\nS,R1,110809,-28450,-77094,-84311,-17885,54847,0,0\nR1,L1,110809,-28450,-77094,-84311,-17885,54847,645504250,1284436058\nL1,R2,54473,-14066,0,0,-17661,54161,0,0\nL1,R3,0,0,-39752,-43473,0,0,0,0\nR2,E,54473,-14066,0,0,-17661,54161,320530127,320500468\n\nsweeps,source_p,source_q,drawn_p,drawn_q,lost_p,lost_q\n3,200965684420,51605151260,199999665248,50000849400,966034377,1604936526\n\nto,tap_a,tap_b,tap_c\nQ9,6,0,2\nR2,3,0,2\nR3,5,-5,0\n") ≡ Err (NameDiffers 20)
unfolding opened
v5-00280 = refl

-- S-5, 00282-tap-01-17
v5-00282 : checked (bytes "source,va_re,va_im,vb_re,vb_im,vc_re,vc_im,tol,sweeps\nS,700000,10,-340000,-640000,-380000,600000,1,40\n\nfrom,to,phases,kind,p1,p2,p3,p4,p5,p6,p7,p8,p9,p10,p11,p12\nS,R1,ABC,R,0,0,0,12000,150,60,200,1460000,2840000,0,0,0\nR1,L1,ABC,L,300000,600000,100000,200000,90000,180000,300000,600000,80000,170000,300000,600000\nL1,R2,AC,R,3,0,-2,12200,250,60,100,300000,100000,0,0,0\nL1,R3,AB,R,5,-5,0,0,0,0,0,0,0,0,0,0\nR2,E,AC,L,500000,500000,0,0,0,0,0,0,0,0,500000,500000\n\nnode,phase,kind,vn,p,q\nL1,A,P,720000,400000,100000\nL1,B,P,720000,400000,100000\nE,A,P,720000,400000,100000\nE,C,P,720000,400000,100000\nR3,B,P,720000,400000,100000\n") (bytes "node,va_re,va_im,vb_re,vb_im,vc_re,vc_im\nS,700000,10,-340000,-640000,-380000,600000\nR1,727273,10,-340000,-640000,-384810,607595\nL1,722475,-3571,-343347,-634912,-383309,607269\nR2,736280,-3639,0,0,-388161,614956\nR3,745781,-3686,-332943,-615672,0,0\nE,732854,-5659,0,0,-384570,613131\n\nfrom,to,ia_re,ia_im,ib_re,ib_im,ic_re,ic_im,loss_p,loss_q\nS,R1,110809,-28450,-77094,-84311,-17885,54847,0,0\nR1,L1,110809,-28450,-77094,-84311,-17885,54847,645504250,1284436058\nL1,R2,54473,-14066,0,0,-17661,54161,0,0\nL1,R3,0,0,-39752,-43473,0,0,0,0\nR2,E,54473,-14066,0,0,-17661,54161,320530127,320500468\n\nsweeps,source_p,source_q,drawn_p,drawn_q,lost_p,lost_q\n3,200965684420,51605151260,199999665248,50000849400,966034377,1604936526\n\nto,tap_a,tap_b,tap_c\nR1,17,0,2\nR2,3,0,2\nR3,5,-5,0\n") ≡ Err ReportLayout
unfolding opened
v5-00282 = refl

-- S-5, 00290-tap-02--17
v5-00290 : checked (bytes "source,va_re,va_im,vb_re,vb_im,vc_re,vc_im,tol,sweeps\nS,700000,10,-340000,-640000,-380000,600000,1,40\n\nfrom,to,phases,kind,p1,p2,p3,p4,p5,p6,p7,p8,p9,p10,p11,p12\nS,R1,ABC,R,0,0,0,12000,150,60,200,1460000,2840000,0,0,0\nR1,L1,ABC,L,300000,600000,100000,200000,90000,180000,300000,600000,80000,170000,300000,600000\nL1,R2,AC,R,3,0,-2,12200,250,60,100,300000,100000,0,0,0\nL1,R3,AB,R,5,-5,0,0,0,0,0,0,0,0,0,0\nR2,E,AC,L,500000,500000,0,0,0,0,0,0,0,0,500000,500000\n\nnode,phase,kind,vn,p,q\nL1,A,P,720000,400000,100000\nL1,B,P,720000,400000,100000\nE,A,P,720000,400000,100000\nE,C,P,720000,400000,100000\nR3,B,P,720000,400000,100000\n") (bytes "node,va_re,va_im,vb_re,vb_im,vc_re,vc_im\nS,700000,10,-340000,-640000,-380000,600000\nR1,727273,10,-340000,-640000,-384810,607595\nL1,722475,-3571,-343347,-634912,-383309,607269\nR2,736280,-3639,0,0,-388161,614956\nR3,745781,-3686,-332943,-615672,0,0\nE,732854,-5659,0,0,-384570,613131\n\nfrom,to,ia_re,ia_im,ib_re,ib_im,ic_re,ic_im,loss_p,loss_q\nS,R1,110809,-28450,-77094,-84311,-17885,54847,0,0\nR1,L1,110809,-28450,-77094,-84311,-17885,54847,645504250,1284436058\nL1,R2,54473,-14066,0,0,-17661,54161,0,0\nL1,R3,0,0,-39752,-43473,0,0,0,0\nR2,E,54473,-14066,0,0,-17661,54161,320530127,320500468\n\nsweeps,source_p,source_q,drawn_p,drawn_q,lost_p,lost_q\n3,200965684420,51605151260,199999665248,50000849400,966034377,1604936526\n\nto,tap_a,tap_b,tap_c\nR1,6,-17,2\nR2,3,0,2\nR3,5,-5,0\n") ≡ Err ReportLayout
unfolding opened
v5-00290 = refl

-- S-5, 00313-tap-12-1
v5-00313 : checked (bytes "source,va_re,va_im,vb_re,vb_im,vc_re,vc_im,tol,sweeps\nS,700000,10,-340000,-640000,-380000,600000,1,40\n\nfrom,to,phases,kind,p1,p2,p3,p4,p5,p6,p7,p8,p9,p10,p11,p12\nS,R1,ABC,R,0,0,0,12000,150,60,200,1460000,2840000,0,0,0\nR1,L1,ABC,L,300000,600000,100000,200000,90000,180000,300000,600000,80000,170000,300000,600000\nL1,R2,AC,R,3,0,-2,12200,250,60,100,300000,100000,0,0,0\nL1,R3,AB,R,5,-5,0,0,0,0,0,0,0,0,0,0\nR2,E,AC,L,500000,500000,0,0,0,0,0,0,0,0,500000,500000\n\nnode,phase,kind,vn,p,q\nL1,A,P,720000,400000,100000\nL1,B,P,720000,400000,100000\nE,A,P,720000,400000,100000\nE,C,P,720000,400000,100000\nR3,B,P,720000,400000,100000\n") (bytes "node,va_re,va_im,vb_re,vb_im,vc_re,vc_im\nS,700000,10,-340000,-640000,-380000,600000\nR1,727273,10,-340000,-640000,-384810,607595\nL1,722475,-3571,-343347,-634912,-383309,607269\nR2,736280,-3639,0,0,-388161,614956\nR3,745781,-3686,-332943,-615672,0,0\nE,732854,-5659,0,0,-384570,613131\n\nfrom,to,ia_re,ia_im,ib_re,ib_im,ic_re,ic_im,loss_p,loss_q\nS,R1,110809,-28450,-77094,-84311,-17885,54847,0,0\nR1,L1,110809,-28450,-77094,-84311,-17885,54847,645504250,1284436058\nL1,R2,54473,-14066,0,0,-17661,54161,0,0\nL1,R3,0,0,-39752,-43473,0,0,0,0\nR2,E,54473,-14066,0,0,-17661,54161,320530127,320500468\n\nsweeps,source_p,source_q,drawn_p,drawn_q,lost_p,lost_q\n3,200965684420,51605151260,199999665248,50000849400,966034377,1604936526\n\nto,tap_a,tap_b,tap_c\nR1,6,0,2\nR2,3,1,2\nR3,5,-5,0\n") ≡ Err ReportLayout
unfolding opened
v5-00313 = refl

-- S-5, 00304-tap-11-16
v5-00304 : checked (bytes "source,va_re,va_im,vb_re,vb_im,vc_re,vc_im,tol,sweeps\nS,700000,10,-340000,-640000,-380000,600000,1,40\n\nfrom,to,phases,kind,p1,p2,p3,p4,p5,p6,p7,p8,p9,p10,p11,p12\nS,R1,ABC,R,0,0,0,12000,150,60,200,1460000,2840000,0,0,0\nR1,L1,ABC,L,300000,600000,100000,200000,90000,180000,300000,600000,80000,170000,300000,600000\nL1,R2,AC,R,3,0,-2,12200,250,60,100,300000,100000,0,0,0\nL1,R3,AB,R,5,-5,0,0,0,0,0,0,0,0,0,0\nR2,E,AC,L,500000,500000,0,0,0,0,0,0,0,0,500000,500000\n\nnode,phase,kind,vn,p,q\nL1,A,P,720000,400000,100000\nL1,B,P,720000,400000,100000\nE,A,P,720000,400000,100000\nE,C,P,720000,400000,100000\nR3,B,P,720000,400000,100000\n") (bytes "node,va_re,va_im,vb_re,vb_im,vc_re,vc_im\nS,700000,10,-340000,-640000,-380000,600000\nR1,727273,10,-340000,-640000,-384810,607595\nL1,722475,-3571,-343347,-634912,-383309,607269\nR2,736280,-3639,0,0,-388161,614956\nR3,745781,-3686,-332943,-615672,0,0\nE,732854,-5659,0,0,-384570,613131\n\nfrom,to,ia_re,ia_im,ib_re,ib_im,ic_re,ic_im,loss_p,loss_q\nS,R1,110809,-28450,-77094,-84311,-17885,54847,0,0\nR1,L1,110809,-28450,-77094,-84311,-17885,54847,645504250,1284436058\nL1,R2,54473,-14066,0,0,-17661,54161,0,0\nL1,R3,0,0,-39752,-43473,0,0,0,0\nR2,E,54473,-14066,0,0,-17661,54161,320530127,320500468\n\nsweeps,source_p,source_q,drawn_p,drawn_q,lost_p,lost_q\n3,200965684420,51605151260,199999665248,50000849400,966034377,1604936526\n\nto,tap_a,tap_b,tap_c\nR1,6,0,2\nR2,16,0,2\nR3,5,-5,0\n") ≡ Err (CurrentDiffers 10)
unfolding opened
v5-00304 = refl

-- S-5, 00284-tap-01-16
v5-00284 : checked (bytes "source,va_re,va_im,vb_re,vb_im,vc_re,vc_im,tol,sweeps\nS,700000,10,-340000,-640000,-380000,600000,1,40\n\nfrom,to,phases,kind,p1,p2,p3,p4,p5,p6,p7,p8,p9,p10,p11,p12\nS,R1,ABC,R,0,0,0,12000,150,60,200,1460000,2840000,0,0,0\nR1,L1,ABC,L,300000,600000,100000,200000,90000,180000,300000,600000,80000,170000,300000,600000\nL1,R2,AC,R,3,0,-2,12200,250,60,100,300000,100000,0,0,0\nL1,R3,AB,R,5,-5,0,0,0,0,0,0,0,0,0,0\nR2,E,AC,L,500000,500000,0,0,0,0,0,0,0,0,500000,500000\n\nnode,phase,kind,vn,p,q\nL1,A,P,720000,400000,100000\nL1,B,P,720000,400000,100000\nE,A,P,720000,400000,100000\nE,C,P,720000,400000,100000\nR3,B,P,720000,400000,100000\n") (bytes "node,va_re,va_im,vb_re,vb_im,vc_re,vc_im\nS,700000,10,-340000,-640000,-380000,600000\nR1,727273,10,-340000,-640000,-384810,607595\nL1,722475,-3571,-343347,-634912,-383309,607269\nR2,736280,-3639,0,0,-388161,614956\nR3,745781,-3686,-332943,-615672,0,0\nE,732854,-5659,0,0,-384570,613131\n\nfrom,to,ia_re,ia_im,ib_re,ib_im,ic_re,ic_im,loss_p,loss_q\nS,R1,110809,-28450,-77094,-84311,-17885,54847,0,0\nR1,L1,110809,-28450,-77094,-84311,-17885,54847,645504250,1284436058\nL1,R2,54473,-14066,0,0,-17661,54161,0,0\nL1,R3,0,0,-39752,-43473,0,0,0,0\nR2,E,54473,-14066,0,0,-17661,54161,320530127,320500468\n\nsweeps,source_p,source_q,drawn_p,drawn_q,lost_p,lost_q\n3,200965684420,51605151260,199999665248,50000849400,966034377,1604936526\n\nto,tap_a,tap_b,tap_c\nR1,16,0,2\nR2,3,0,2\nR3,5,-5,0\n") ≡ Err (VoltageOff 3)
unfolding opened
v5-00284 = refl

-- S-5, 00374-three-1-edit2
v5-00374 : checked (bytes "source,va_re,va_im,vb_re,vb_im,vc_re,vc_im,tol,sweeps\nS,700000,10,-340000,-640000,-380000,600000,1,40\n\nfrom,to,phases,kind,p1,p2,p3,p4,p5,p6,p7,p8,p9,p10,p11,p12\nR2,E,AC,L,500000,500000,0,0,0,0,0,0,0,0,500000,500000\nL1,R3,AB,R,5,-5,0,0,0,0,0,0,0,0,0,0\nL1,R2,AC,R,3,0,-2,12200,250,60,100,300000,100000,0,0,0\nR1,L1,ABC,L,300000,600000,100000,200000,90000,180000,300000,600000,80000,170000,300000,600000\nS,R1,ABC,R,0,0,0,12000,150,60,200,1460000,2840000,0,0,0\n\nnode,phase,kind,vn,p,q\nL1,A,P,720000,400000,100000\nL1,B,P,720000,400000,100000\nE,A,P,720000,400000,100000\nE,C,P,720000,400000,100000\nR3,B,P,720000,400000,100000\n") (bytes "node,va_re,va_im,vb_re,vb_im,vc_re,vc_im\nS,700000,10,-340000,-640000,-380000,600000\nE,732854,-5659,0,0,-384570,613131\nR3,745781,-3686,-332943,-615672,0,0\nR2,736280,-3639,0,0,-388161,614956\nL1,722475,-3571,-343347,-634912,-383309,607269\nR1,727273,10,-340000,-640000,-384810,607595\n\nfrom,to,ia_re,ia_im,ib_re,ib_im,ic_re,ic_im,loss_p,loss_q\nR2,E,54473,-14066,0,0,-17661,54161,320530127,320500468\nL1,R3,0,0,-39752,-43473,0,0,0,0\nL1,R2,54473,-14066,0,0,-17661,54161,0,0\nR1,L1,110809,-28450,-77094,-84311,-17885,54847,645504250,1284436058\nS,R1,110809,-28450,-77094,-84311,-17885,54847,0,1000\n\nsweeps,source_p,source_q,drawn_p,drawn_q,lost_p,lost_q\n3,200965684420,51605151260,199999665248,50000849400,966034377,1604936526\n\nto,tap_a,tap_b,tap_c\nR3,5,-5,0\nR2,3,0,2\nR1,6,0,2\n") ≡ Err TotalDiffers
unfolding opened
v5-00374 = refl

-- S-5, 00481-wants-up-at-15
v5-00481 : checked (bytes "source,va_re,va_im,vb_re,vb_im,vc_re,vc_im,tol,sweeps\nS,720000,0,-360000,-623538,-360000,623538,1,20\n\nfrom,to,phases,kind,p1,p2,p3,p4,p5,p6,p7,p8,p9,p10,p11,p12\nS,N1,A,R,16,0,0,20000,0,60,100,0,0,0,0,0\n\nnode,phase,kind,vn,p,q\n") (bytes "node,va_re,va_im,vb_re,vb_im,vc_re,vc_im\nS,720000,0,-360000,-623538,-360000,623538\nN1,794483,0,0,0,0,0\n\nfrom,to,ia_re,ia_im,ib_re,ib_im,ic_re,ic_im,loss_p,loss_q\nS,N1,0,0,0,0,0,0,0,0\n\nsweeps,source_p,source_q,drawn_p,drawn_q,lost_p,lost_q\n1,0,0,0,0,0,0\n\nto,tap_a,tap_b,tap_c\nN1,15,0,0\n") ≡ Err (TapDiffers 12)
unfolding opened
v5-00481 = refl

-- S-5, 00484-wants-down-at--15
v5-00484 : checked (bytes "source,va_re,va_im,vb_re,vb_im,vc_re,vc_im,tol,sweeps\nS,720000,0,-360000,-623538,-360000,623538,1,20\n\nfrom,to,phases,kind,p1,p2,p3,p4,p5,p6,p7,p8,p9,p10,p11,p12\nS,N1,A,R,16,0,0,1,0,60,100,0,0,0,0,0\n\nnode,phase,kind,vn,p,q\n") (bytes "node,va_re,va_im,vb_re,vb_im,vc_re,vc_im\nS,720000,0,-360000,-623538,-360000,623538\nN1,658286,0,0,0,0,0\n\nfrom,to,ia_re,ia_im,ib_re,ib_im,ic_re,ic_im,loss_p,loss_q\nS,N1,0,0,0,0,0,0,0,0\n\nsweeps,source_p,source_q,drawn_p,drawn_q,lost_p,lost_q\n1,0,0,0,0,0,0\n\nto,tap_a,tap_b,tap_c\nN1,-15,0,0\n") ≡ Err (TapDiffers 12)
unfolding opened
v5-00484 = refl

-- S-5, 00483-wants-down-at-16
v5-00483 : checked (bytes "source,va_re,va_im,vb_re,vb_im,vc_re,vc_im,tol,sweeps\nS,720000,0,-360000,-623538,-360000,623538,1,20\n\nfrom,to,phases,kind,p1,p2,p3,p4,p5,p6,p7,p8,p9,p10,p11,p12\nS,N1,A,R,16,0,0,1,0,60,100,0,0,0,0,0\n\nnode,phase,kind,vn,p,q\n") (bytes "node,va_re,va_im,vb_re,vb_im,vc_re,vc_im\nS,720000,0,-360000,-623538,-360000,623538\nN1,800000,0,0,0,0,0\n\nfrom,to,ia_re,ia_im,ib_re,ib_im,ic_re,ic_im,loss_p,loss_q\nS,N1,0,0,0,0,0,0,0,0\n\nsweeps,source_p,source_q,drawn_p,drawn_q,lost_p,lost_q\n1,0,0,0,0,0,0\n\nto,tap_a,tap_b,tap_c\nN1,16,0,0\n") ≡ Err (TapDiffers 12)
unfolding opened
v5-00483 = refl

-- S-5, 00520-fixed-taps-other
v5-00520 : checked (bytes "source,va_re,va_im,vb_re,vb_im,vc_re,vc_im,tol,sweeps\nS,720000,0,-360000,-623538,-360000,623538,1,20\n\nfrom,to,phases,kind,p1,p2,p3,p4,p5,p6,p7,p8,p9,p10,p11,p12\nS,N1,AB,R,5,-3,0,0,0,0,0,0,0,0,0,0\n\nnode,phase,kind,vn,p,q\nN1,A,P,720000,72000,0\n") (bytes "node,va_re,va_im,vb_re,vb_im,vc_re,vc_im\nS,720000,0,-360000,-623538,-360000,623538\nN1,748052,0,-353374,-612062,0,0\n\nfrom,to,ia_re,ia_im,ib_re,ib_im,ic_re,ic_im,loss_p,loss_q\nS,N1,9625,0,0,0,0,0,0,0\n\nsweeps,source_p,source_q,drawn_p,drawn_q,lost_p,lost_q\n1,7200000000,0,7200000500,0,0,0\n\nto,tap_a,tap_b,tap_c\nN1,6,-3,0\n") ≡ Err (TapDiffers 12)
unfolding opened
v5-00520 = refl

-- S-5, 00522-56-first-[(6, 0, 0), (0, 6, 0), (0, 0, 7)]
v5-00522 : checked (bytes "source,va_re,va_im,vb_re,vb_im,vc_re,vc_im,tol,sweeps\nS,720000,0,-360000,-623538,-360000,623538,1,20\n\nfrom,to,phases,kind,p1,p2,p3,p4,p5,p6,p7,p8,p9,p10,p11,p12\nS,N1,A,R,5,0,0,0,0,0,0,0,0,0,0,0\nS,N2,B,R,0,5,0,0,0,0,0,0,0,0,0,0\nS,N3,C,R,0,0,0,12500,100,60,1,0,0,0,0,0\n\nnode,phase,kind,vn,p,q\n") (bytes "node,va_re,va_im,vb_re,vb_im,vc_re,vc_im\nS,720000,0,-360000,-623538,-360000,623538\nN1,748052,0,0,0,0,0\nN2,0,0,-374026,-647832,0,0\nN3,0,0,0,0,-376471,652066\n\nfrom,to,ia_re,ia_im,ib_re,ib_im,ic_re,ic_im,loss_p,loss_q\nS,N1,0,0,0,0,0,0,0,0\nS,N2,0,0,0,0,0,0,0,0\nS,N3,0,0,0,0,0,0,0,0\n\nsweeps,source_p,source_q,drawn_p,drawn_q,lost_p,lost_q\n1,0,0,0,0,0,0\n\nto,tap_a,tap_b,tap_c\nN1,6,0,0\nN2,0,6,0\nN3,0,0,7\n") ≡ Err (TapDiffers 16)
unfolding opened
v5-00522 = refl

-- S-5, 00523-56-first-[(5, 0, 0), (0, 6, 0), (0, 0, 0)]
v5-00523 : checked (bytes "source,va_re,va_im,vb_re,vb_im,vc_re,vc_im,tol,sweeps\nS,720000,0,-360000,-623538,-360000,623538,1,20\n\nfrom,to,phases,kind,p1,p2,p3,p4,p5,p6,p7,p8,p9,p10,p11,p12\nS,N1,A,R,5,0,0,0,0,0,0,0,0,0,0,0\nS,N2,B,R,0,5,0,0,0,0,0,0,0,0,0,0\nS,N3,C,R,0,0,0,12500,100,60,1,0,0,0,0,0\n\nnode,phase,kind,vn,p,q\n") (bytes "node,va_re,va_im,vb_re,vb_im,vc_re,vc_im\nS,720000,0,-360000,-623538,-360000,623538\nN1,743226,0,0,0,0,0\nN2,0,0,-374026,-647832,0,0\nN3,0,0,0,0,-360000,623538\n\nfrom,to,ia_re,ia_im,ib_re,ib_im,ic_re,ic_im,loss_p,loss_q\nS,N1,0,0,0,0,0,0,0,0\nS,N2,0,0,0,0,0,0,0,0\nS,N3,0,0,0,0,0,0,0,0\n\nsweeps,source_p,source_q,drawn_p,drawn_q,lost_p,lost_q\n1,0,0,0,0,0,0\n\nto,tap_a,tap_b,tap_c\nN1,5,0,0\nN2,0,6,0\nN3,0,0,0\n") ≡ Err (TapDiffers 17)
unfolding opened
v5-00523 = refl

-- S-5, 00470-settled-at-other-20+1
v5-00470 : checked (bytes "source,va_re,va_im,vb_re,vb_im,vc_re,vc_im,tol,sweeps\nS,700000,10,-340000,-640000,-380000,600000,1,40\n\nfrom,to,phases,kind,p1,p2,p3,p4,p5,p6,p7,p8,p9,p10,p11,p12\nR2,E,AC,L,500000,500000,0,0,0,0,0,0,0,0,500000,500000\nL1,R3,AB,R,5,-5,0,0,0,0,0,0,0,0,0,0\nL1,R2,AC,R,3,0,-2,12200,250,60,100,300000,100000,0,0,0\nR1,L1,ABC,L,300000,600000,100000,200000,90000,180000,300000,600000,80000,170000,300000,600000\nS,R1,ABC,R,0,0,0,12000,150,60,200,1460000,2840000,0,0,0\n\nnode,phase,kind,vn,p,q\nL1,A,P,720000,400000,100000\nL1,B,P,720000,400000,100000\nE,A,P,720000,400000,100000\nE,C,P,720000,400000,100000\nR3,B,P,720000,400000,100000\n") (bytes "node,va_re,va_im,vb_re,vb_im,vc_re,vc_im\nS,700000,10,-340000,-640000,-380000,600000\nE,737756,-5608,0,0,-384559,613143\nR3,750722,-3647,-332932,-615660,0,0\nR2,741159,-3601,0,0,-388150,614968\nL1,727262,-3533,-343336,-634899,-383298,607281\nR1,732026,10,-340000,-640000,-384810,607595\n\nfrom,to,ia_re,ia_im,ib_re,ib_im,ic_re,ic_im,loss_p,loss_q\nR2,E,54112,-13966,0,0,-17660,54161,318428371,318405699\nL1,R3,0,0,-39752,-43474,0,0,0,0\nL1,R2,54112,-13966,0,0,-17660,54161,0,0\nR1,L1,110079,-28250,-77095,-84314,-17884,54847,641457716,1276549163\nS,R1,110079,-28250,-77095,-84314,-17884,54847,0,0\n\nsweeps,source_p,source_q,drawn_p,drawn_q,lost_p,lost_q\n1,200959864580,51594171150,199999998445,49999889436,959886087,1594954862\n\nto,tap_a,tap_b,tap_c\nR3,5,-5,0\nR2,3,0,2\nR1,7,0,2\n") ≡ Err (TapDiffers 21)
unfolding opened
v5-00470 = refl

-- S-5, 00620-relay-reported-11992-719500
v5-00620 : checked (bytes "source,va_re,va_im,vb_re,vb_im,vc_re,vc_im,tol,sweeps\nS,720000,0,-360000,-623538,-360000,623538,1000,20\n\nfrom,to,phases,kind,p1,p2,p3,p4,p5,p6,p7,p8,p9,p10,p11,p12\nS,N0,A,L,500000,0,0,0,0,0,0,0,0,0,0,0\nN0,N1,A,R,0,0,0,11992,4,60,1,0,0,0,0,0\n\nnode,phase,kind,vn,p,q\nN1,A,P,720000,72000,0\n") (bytes "node,va_re,va_im,vb_re,vb_im,vc_re,vc_im\nS,720000,0,-360000,-623538,-360000,623538\nN0,719500,0,0,0,0,0\nN1,719500,0,0,0,0,0\n\nfrom,to,ia_re,ia_im,ib_re,ib_im,ic_re,ic_im,loss_p,loss_q\nS,N0,10007,0,0,0,0,0,5003500,0\nN0,N1,10007,0,0,0,0,0,0,0\n\nsweeps,source_p,source_q,drawn_p,drawn_q,lost_p,lost_q\n1,7205040000,0,7200036500,0,5003500,0\n\nto,tap_a,tap_b,tap_c\nN1,0,0,0\n") ≡ Ok done
unfolding opened
v5-00620 = refl

-- S-5, 00617-relay-reported-11992-719000
v5-00617 : checked (bytes "source,va_re,va_im,vb_re,vb_im,vc_re,vc_im,tol,sweeps\nS,720000,0,-360000,-623538,-360000,623538,1000,20\n\nfrom,to,phases,kind,p1,p2,p3,p4,p5,p6,p7,p8,p9,p10,p11,p12\nS,N0,A,L,500000,0,0,0,0,0,0,0,0,0,0,0\nN0,N1,A,R,0,0,0,11992,4,60,1,0,0,0,0,0\n\nnode,phase,kind,vn,p,q\nN1,A,P,720000,72000,0\n") (bytes "node,va_re,va_im,vb_re,vb_im,vc_re,vc_im\nS,720000,0,-360000,-623538,-360000,623538\nN0,719000,0,0,0,0,0\nN1,719000,0,0,0,0,0\n\nfrom,to,ia_re,ia_im,ib_re,ib_im,ic_re,ic_im,loss_p,loss_q\nS,N0,10014,0,0,0,0,0,5017014,0\nN0,N1,10014,0,0,0,0,0,0,0\n\nsweeps,source_p,source_q,drawn_p,drawn_q,lost_p,lost_q\n1,7210080000,0,7200066000,0,5017014,0\n\nto,tap_a,tap_b,tap_c\nN1,0,0,0\n") ≡ Err (TapDiffers 14)
unfolding opened
v5-00617 = refl
