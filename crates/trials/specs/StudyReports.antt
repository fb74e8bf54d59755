-- Vectors: feeders that the study reports on. Assumes nothing.
use Rattle.std.specs.Prelude.{◌≡◌, refl, Ok}
use Rattle.text.specs.Text.{bytes}
use Rattle.ladder.specs.Study.{fitted}
use Rattle.trials.specs.Opened.{opened}

-- 00049-30-delta-equal-phases
v00049 : fitted (bytes "source,va_re,va_im,vb_re,vb_im,vc_re,vc_im,tol,sweeps\nS,720000,0,720000,0,-360000,623538,1,20\n\nfrom,to,phases,kind,p1,p2,p3,p4,p5,p6,p7,p8,p9,p10,p11,p12\nS,T,ABC,D,12470,2400,0,0,0,0,0,0,0,0,0,0\n\nnode,phase,kind,vn,p,q\nT,B,P,240000,10,0\n") 1000000 ≡ Ok (record { text = bytes "node,va_re,va_im,vb_re,vb_im,vc_re,vc_im\nS,720000,0,720000,0,-360000,623538\nT,207859,-120007,0,0,-207859,120007\n\nfrom,to,ia_re,ia_im,ib_re,ib_im,ic_re,ic_im,loss_p,loss_q\nS,T,0,0,0,0,0,0,0,0\n\nsweeps,source_p,source_q,drawn_p,drawn_q,lost_p,lost_q\n1,0,0,0,0,0,0\n\nto,tap_a,tap_b,tap_c\n"; sweeps = 1 })
unfolding opened
v00049 = refl

-- 00162-33-V0-reg-ok
v00162 : fitted (bytes "source,va_re,va_im,vb_re,vb_im,vc_re,vc_im,tol,sweeps\nS,1800000,0,1800000,0,1800000,0,1,20\n\nfrom,to,phases,kind,p1,p2,p3,p4,p5,p6,p7,p8,p9,p10,p11,p12\nS,N,A,R,16,0,0,0,0,0,0,0,0,0,0,0\n\nnode,phase,kind,vn,p,q\n") 1000000 ≡ Ok (record { text = bytes "node,va_re,va_im,vb_re,vb_im,vc_re,vc_im\nS,1800000,0,1800000,0,1800000,0\nN,2000000,0,0,0,0,0\n\nfrom,to,ia_re,ia_im,ib_re,ib_im,ic_re,ic_im,loss_p,loss_q\nS,N,0,0,0,0,0,0,0,0\n\nsweeps,source_p,source_q,drawn_p,drawn_q,lost_p,lost_q\n1,0,0,0,0,0,0\n\nto,tap_a,tap_b,tap_c\nN,16,0,0\n"; sweeps = 1 })
unfolding opened
v00162 = refl

-- 00917-tiny
v00917 : fitted (bytes "source,va_re,va_im,vb_re,vb_im,vc_re,vc_im,tol,sweeps\nS,26,14,-20,-22,-39,8,0,50\n\nfrom,to,phases,kind,p1,p2,p3,p4,p5,p6,p7,p8,p9,p10,p11,p12\nS,N0,ABC,Y,4,8,-1677,2064,-594,1677,-5030,1691,0,0,0,0\n\nnode,phase,kind,vn,p,q\nS,C,I,64,3,3\nN0,A,P,1681,1,1\n") 1000000 ≡ Ok (record { text = bytes "node,va_re,va_im,vb_re,vb_im,vc_re,vc_im\nS,26,14,-20,-22,-39,8\nN0,52,28,-40,-44,-78,16\n\nfrom,to,ia_re,ia_im,ib_re,ib_im,ic_re,ic_im,loss_p,loss_q\nS,N0,3,-1,0,0,0,0,0,0\n\nsweeps,source_p,source_q,drawn_p,drawn_q,lost_p,lost_q\n1,190634,190639,190634,190639,0,0\n\nto,tap_a,tap_b,tap_c\n"; sweeps = 1 })
unfolding opened
v00917 = refl

-- 01021-tiny
v01021 : fitted (bytes "source,va_re,va_im,vb_re,vb_im,vc_re,vc_im,tol,sweeps\nS,23,-6,33,-26,0,-1,2,5\n\nfrom,to,phases,kind,p1,p2,p3,p4,p5,p6,p7,p8,p9,p10,p11,p12\nS,N1,C,L,0,0,0,0,0,0,0,0,0,0,15000000,-4999990\nS,N0,BC,R,0,2,3,0,0,0,0,0,0,0,0,0\n\nnode,phase,kind,vn,p,q\nN0,C,P,2798,-2,-2\n") 1000000 ≡ Ok (record { text = bytes "node,va_re,va_im,vb_re,vb_im,vc_re,vc_im\nS,23,-6,33,-26,0,-1\nN1,0,0,0,0,0,-1\nN0,0,0,33,-26,0,-1\n\nfrom,to,ia_re,ia_im,ib_re,ib_im,ic_re,ic_im,loss_p,loss_q\nS,N1,0,0,0,0,0,0,0,0\nS,N0,0,0,0,0,0,0,0,0\n\nsweeps,source_p,source_q,drawn_p,drawn_q,lost_p,lost_q\n1,0,0,0,0,0,0\n\nto,tap_a,tap_b,tap_c\nN0,0,2,3\n"; sweeps = 1 })
unfolding opened
v01021 = refl

-- 01096-tiny
v01096 : fitted (bytes "source,va_re,va_im,vb_re,vb_im,vc_re,vc_im,tol,sweeps\nS,188217,54420,-138000,57949,142449,-191838,0,20\n\nfrom,to,phases,kind,p1,p2,p3,p4,p5,p6,p7,p8,p9,p10,p11,p12\nS,N0,ABC,L,-98039,-32680,32680,-32680,32680,-32680,-32680,38709,-32680,15302,32680,-34378\n\nnode,phase,kind,vn,p,q\nS,A,Z,34108,0,-2\nS,B,Z,1948,-2,0\nN0,A,P,3226,-2,-1\nN0,C,Z,26843,-3,2\nS,C,Z,523,0,0\nS,A,Z,339,2,3\n") 1000000 ≡ Ok (record { text = bytes "node,va_re,va_im,vb_re,vb_im,vc_re,vc_im\nS,188217,54420,-138000,57949,142449,-191838\nN0,188217,54419,-138000,57949,142449,-191839\n\nfrom,to,ia_re,ia_im,ib_re,ib_im,ic_re,ic_im,loss_p,loss_q\nS,N0,-1,0,0,0,-113,40,40,-114\n\nsweeps,source_p,source_q,drawn_p,drawn_q,lost_p,lost_q\n2,65601678141,100218761617,65601678101,100218761731,40,-114\n\nto,tap_a,tap_b,tap_c\n"; sweeps = 2 })
unfolding opened
v01096 = refl

-- 01166-tiny
v01166 : fitted (bytes "source,va_re,va_im,vb_re,vb_im,vc_re,vc_im,tol,sweeps\nS,0,-2,2,-3,2,-1,0,20\n\nfrom,to,phases,kind,p1,p2,p3,p4,p5,p6,p7,p8,p9,p10,p11,p12\nS,N1,BC,L,0,0,0,0,0,0,4212,-6354,12637,4212,1424,12637\nN3,N4,B,R,0,12,0,0,0,0,0,0,0,0,0,0\nS,N0,ABC,D,8,9,-4999990,5000000,5000000,-15000000,4999990,5000000,0,0,0,0\nS,N3,B,R,0,12,0,0,0,0,0,0,0,0,0,0\nN1,N2,C,R,0,0,9,0,0,0,0,0,0,0,0,0\n\nnode,phase,kind,vn,p,q\nN4,B,Z,3539,1,0\nN1,C,I,337,-3,1\nS,A,P,5110,1,3\n") 1000000 ≡ Ok (record { text = bytes "node,va_re,va_im,vb_re,vb_im,vc_re,vc_im\nS,0,-2,2,-3,2,-1\nN1,0,0,3,-2,2,0\nN4,0,0,2,-3,0,0\nN0,-2,-1,2,-1,0,2\nN3,0,0,2,-3,0,0\nN2,0,0,0,0,2,0\n\nfrom,to,ia_re,ia_im,ib_re,ib_im,ic_re,ic_im,loss_p,loss_q\nS,N1,0,0,0,0,-890,-297,297,890\nN3,N4,0,0,0,0,0,0,0,0\nS,N0,0,0,0,0,0,0,0,0\nS,N3,0,0,0,0,0,0,0,0\nN1,N2,0,0,0,0,0,0,0,0\n\nsweeps,source_p,source_q,drawn_p,drawn_q,lost_p,lost_q\n3,-1483,1484,-1780,594,297,890\n\nto,tap_a,tap_b,tap_c\nN4,0,12,0\nN3,0,12,0\nN2,0,0,9\n"; sweeps = 3 })
unfolding opened
v01166 = refl

-- S-1, 00008-P-BC
v1-00008 : fitted (bytes "source,va_re,va_im,vb_re,vb_im,vc_re,vc_im,tol,sweeps\nS,720000,0,-360000,-623538,-360000,623538,1,20\n\nfrom,to,phases,kind,p1,p2,p3,p4,p5,p6,p7,p8,p9,p10,p11,p12\nS,N1,ABC,L,300000,600000,100000,200000,90000,180000,300000,600000,80000,170000,300000,600000\n\nnode,phase,kind,vn,p,q\nN1,BC,P,1247077,90000,30000\n") 1000000 ≡ Ok (record { text = bytes "node,va_re,va_im,vb_re,vb_im,vc_re,vc_im\nS,720000,0,-360000,-623538,-360000,623538\nN1,719988,12,-360257,-623276,-359743,623276\n\nfrom,to,ia_re,ia_im,ib_re,ib_im,ic_re,ic_im,loss_p,loss_q\nS,N1,0,0,-2410,-7219,2410,7219,2544016,4973406\n\nsweeps,source_p,source_q,drawn_p,drawn_q,lost_p,lost_q\n2,9002641644,3005453160,9000097628,3000479754,2544016,4973406\n\nto,tap_a,tap_b,tap_c\n"; sweeps = 2 })
unfolding opened
v1-00008 = refl

-- S-1, 00117-23-BC-BC
v1-00117 : fitted (bytes "source,va_re,va_im,vb_re,vb_im,vc_re,vc_im,tol,sweeps\nS,720000,0,-360000,-623538,-360000,623538,1,20\n\nfrom,to,phases,kind,p1,p2,p3,p4,p5,p6,p7,p8,p9,p10,p11,p12\nS,N1,BC,L,0,0,0,0,0,0,0,0,0,0,0,0\n\nnode,phase,kind,vn,p,q\nN1,BC,Z,720000,1,0\n") 1000000 ≡ Ok (record { text = bytes "node,va_re,va_im,vb_re,vb_im,vc_re,vc_im\nS,720000,0,-360000,-623538,-360000,623538\nN1,0,0,-360000,-623538,-360000,623538\n\nfrom,to,ia_re,ia_im,ib_re,ib_im,ic_re,ic_im,loss_p,loss_q\nS,N1,0,0,0,0,0,0,0,0\n\nsweeps,source_p,source_q,drawn_p,drawn_q,lost_p,lost_q\n1,0,0,0,0,0,0\n\nto,tap_a,tap_b,tap_c\n"; sweeps = 1 })
unfolding opened
v1-00117 = refl

-- S-1, 00164-31-CA--2000000
v1-00164 : fitted (bytes "source,va_re,va_im,vb_re,vb_im,vc_re,vc_im,tol,sweeps\nS,50000,0,0,0,-50000,0,1,20\n\nfrom,to,phases,kind,p1,p2,p3,p4,p5,p6,p7,p8,p9,p10,p11,p12\n\nnode,phase,kind,vn,p,q\nS,CA,P,100000,-2000000,0\n") 1000000 ≡ Ok (record { text = bytes "node,va_re,va_im,vb_re,vb_im,vc_re,vc_im\nS,50000,0,0,0,-50000,0\n\nfrom,to,ia_re,ia_im,ib_re,ib_im,ic_re,ic_im,loss_p,loss_q\n\nsweeps,source_p,source_q,drawn_p,drawn_q,lost_p,lost_q\n1,-200000000000,0,-200000000000,0,0,0\n\nto,tap_a,tap_b,tap_c\n"; sweeps = 1 })
unfolding opened
v1-00164 = refl

-- S-1, 00296-rand
v1-00296 : fitted (bytes "source,va_re,va_im,vb_re,vb_im,vc_re,vc_im,tol,sweeps\nQ8,12232,0,-6000,-10392,-6463,11195,0,20\n\nfrom,to,phases,kind,p1,p2,p3,p4,p5,p6,p7,p8,p9,p10,p11,p12\nQ8,O,ABC,R,8,-1,-9,0,0,0,0,0,0,0,0,0\nO,2V0,BC,L,0,0,0,0,0,0,1,0,0,0,0,0\nQ8,JG,ABC,L,0,1,0,0,0,0,0,0,0,0,1,0\n2V0,OAZ,BC,L,0,0,0,0,0,0,53085145,-25451697,18313565,9598616,96564987,-21151903\n\nnode,phase,kind,vn,p,q\nQ8,A,P,12000,0,0\nO,CA,Z,18500,0,-5\nJG,C,I,12084,1,0\n") 1000000 ≡ Ok (record { text = bytes "node,va_re,va_im,vb_re,vb_im,vc_re,vc_im\nQ8,12232,0,-6000,-10392,-6463,11195\nO,12876,0,-5963,-10327,-6119,10599\n2V0,0,0,-5963,-10327,-6119,10599\nJG,12232,0,-6000,-10392,-6463,11195\nOAZ,0,0,-5963,-10327,-6119,10599\n\nfrom,to,ia_re,ia_im,ib_re,ib_im,ic_re,ic_im,loss_p,loss_q\nQ8,O,15,28,0,0,-15,-28,0,0\nO,2V0,0,0,0,0,0,0,0,0\nQ8,JG,0,0,0,0,-4,7,0,0\n2V0,OAZ,0,0,0,0,0,0,0,0\n\nsweeps,source_p,source_q,drawn_p,drawn_q,lost_p,lost_q\n1,88146,-685498,92370,-690384,0,0\n\nto,tap_a,tap_b,tap_c\nO,8,-1,-9\n"; sweeps = 1 })
unfolding opened
v1-00296 = refl

-- S-1, 00434-rand
v1-00434 : fitted (bytes "source,va_re,va_im,vb_re,vb_im,vc_re,vc_im,tol,sweeps\nF,1200000,0,-600000,-1039230,-600000,1039230,0,3\n\nfrom,to,phases,kind,p1,p2,p3,p4,p5,p6,p7,p8,p9,p10,p11,p12\nF,ZE,AC,R,-16,0,8,0,0,0,0,0,0,0,0,0\nF,2JCP7GT0,ABC,L,29978757,56110320,17490256,11903137,8995147,-12015199,73225972,43334142,32041427,33708053,72748400,-89776559\n\nnode,phase,kind,vn,p,q\nF,A,P,1300473,34,30\n2JCP7GT0,BC,Z,2078461,0,-37625\n") 1000000 ≡ Ok (record { text = bytes "node,va_re,va_im,vb_re,vb_im,vc_re,vc_im\nF,1200000,0,-600000,-1039230,-600000,1039230\nZE,1090909,0,0,0,-631579,1093926\n2JCP7GT0,1198447,-4275,-607393,-1040901,-592866,1017049\n\nfrom,to,ia_re,ia_im,ib_re,ib_im,ic_re,ic_im,loss_p,loss_q\nF,ZE,0,0,0,0,0,0,0,0\nF,2JCP7GT0,0,0,1792,-13,-1792,13,26299014,-36565069\n\nsweeps,source_p,source_q,drawn_p,drawn_q,lost_p,lost_q\n3,30619980,-3721000320,4320966,-3684435251,26299014,-36565069\n\nto,tap_a,tap_b,tap_c\nZE,-16,0,8\n"; sweeps = 3 })
unfolding opened
v1-00434 = refl

-- S-3, 00037-node-at-complex
v3-00037 : fitted (bytes "source,va_re,va_im,vb_re,vb_im,vc_re,vc_im,tol,sweeps\nS,420000,560000,-350000,-606218,0,0,1,20\n\nfrom,to,phases,kind,p1,p2,p3,p4,p5,p6,p7,p8,p9,p10,p11,p12\nS,N1,AB,L,1000,1000,0,0,0,0,1000,1000,0,0,0,0\n\nnode,phase,kind,vn,p,q\nN1,A,P,1000000,70000,9000\n") 1000000 ≡ Ok (record { text = bytes "node,va_re,va_im,vb_re,vb_im,vc_re,vc_im\nS,420000,560000,-350000,-606218,0,0\nN1,420000,560000,-350000,-606218,0,0\n\nfrom,to,ia_re,ia_im,ib_re,ib_im,ic_re,ic_im,loss_p,loss_q\nS,N1,7029,7229,0,0,0,0,7229,7029\n\nsweeps,source_p,source_q,drawn_p,drawn_q,lost_p,lost_q\n1,7000420000,900060000,7000420000,900060000,7229,7029\n\nto,tap_a,tap_b,tap_c\n"; sweeps = 1 })
unfolding opened
v3-00037 = refl

-- S-3, 00094-vn1-1
v3-00094 : fitted (bytes "source,va_re,va_im,vb_re,vb_im,vc_re,vc_im,tol,sweeps\nS,1,0,0,0,0,0,1,20\n\nfrom,to,phases,kind,p1,p2,p3,p4,p5,p6,p7,p8,p9,p10,p11,p12\n\nnode,phase,kind,vn,p,q\nS,A,P,1,3,-2\n") 1000000 ≡ Ok (record { text = bytes "node,va_re,va_im,vb_re,vb_im,vc_re,vc_im\nS,1,0,0,0,0,0\n\nfrom,to,ia_re,ia_im,ib_re,ib_im,ic_re,ic_im,loss_p,loss_q\n\nsweeps,source_p,source_q,drawn_p,drawn_q,lost_p,lost_q\n1,300000,-200000,300000,-200000,0,0\n\nto,tap_a,tap_b,tap_c\n"; sweeps = 1 })
unfolding opened
v3-00094 = refl

-- S-3, 00139-sweeps-950000-0
v3-00139 : fitted (bytes "source,va_re,va_im,vb_re,vb_im,vc_re,vc_im,tol,sweeps\nS,720000,0,-360000,-623538,-360000,623538,0,40\n\nfrom,to,phases,kind,p1,p2,p3,p4,p5,p6,p7,p8,p9,p10,p11,p12\nS,N1,A,L,3000000,2000000,0,0,0,0,0,0,0,0,0,0\n\nnode,phase,kind,vn,p,q\nN1,A,P,950000,100000,20000\n") 1000000 ≡ Ok (record { text = bytes "node,va_re,va_im,vb_re,vb_im,vc_re,vc_im\nS,720000,0,-360000,-623538,-360000,623538\nN1,715241,-1945,0,0,0,0\n\nfrom,to,ia_re,ia_im,ib_re,ib_im,ic_re,ic_im,loss_p,loss_q\nS,N1,13974,-2834,0,0,0,0,60990136,40666436\n\nsweeps,source_p,source_q,drawn_p,drawn_q,lost_p,lost_q\n4,10061280000,2040480000,10000289864,1999813564,60990136,40666436\n\nto,tap_a,tap_b,tap_c\n"; sweeps = 4 })
unfolding opened
v3-00139 = refl

-- S-3, 00184-sweeps-1000000-0
v3-00184 : fitted (bytes "source,va_re,va_im,vb_re,vb_im,vc_re,vc_im,tol,sweeps\nS,720000,0,-360000,-623538,-360000,623538,0,40\n\nfrom,to,phases,kind,p1,p2,p3,p4,p5,p6,p7,p8,p9,p10,p11,p12\nS,N1,A,L,3000000,2000000,0,0,0,0,0,0,0,0,0,0\n\nnode,phase,kind,vn,p,q\nN1,A,P,1000000,100000,20000\n") 1000000 ≡ Ok (record { text = bytes "node,va_re,va_im,vb_re,vb_im,vc_re,vc_im\nS,720000,0,-360000,-623538,-360000,623538\nN1,715241,-1945,0,0,0,0\n\nfrom,to,ia_re,ia_im,ib_re,ib_im,ic_re,ic_im,loss_p,loss_q\nS,N1,13974,-2834,0,0,0,0,60990136,40666436\n\nsweeps,source_p,source_q,drawn_p,drawn_q,lost_p,lost_q\n4,10061280000,2040480000,10000289864,1999813564,60990136,40666436\n\nto,tap_a,tap_b,tap_c\n"; sweeps = 4 })
unfolding opened
v3-00184 = refl

-- S-3, 00287-rand
v3-00287 : fitted (bytes "source,va_re,va_im,vb_re,vb_im,vc_re,vc_im,tol,sweeps\n0NX184AX,252879,8744,-119239,-206527,-120000,207846,1000,100\n\nfrom,to,phases,kind,p1,p2,p3,p4,p5,p6,p7,p8,p9,p10,p11,p12\n\nnode,phase,kind,vn,p,q\n0NX184AX,B,P,340682,11,-2\n0NX184AX,CA,Z,350387,0,-2849\n") 1000000 ≡ Ok (record { text = bytes "node,va_re,va_im,vb_re,vb_im,vc_re,vc_im\n0NX184AX,252879,8744,-119239,-206527,-120000,207846\n\nfrom,to,ia_re,ia_im,ib_re,ib_im,ic_re,ic_im,loss_p,loss_q\n\nsweeps,source_p,source_q,drawn_p,drawn_q,lost_p,lost_q\n1,579161,-414557410,579161,-414557410,0,0\n\nto,tap_a,tap_b,tap_c\n"; sweeps = 1 })
unfolding opened
v3-00287 = refl

-- S-3, 00433-rand
v3-00433 : fitted (bytes "source,va_re,va_im,vb_re,vb_im,vc_re,vc_im,tol,sweeps\nS,75616,171457,15580,8753,-15197,-130832,1,5\n\nfrom,to,phases,kind,p1,p2,p3,p4,p5,p6,p7,p8,p9,p10,p11,p12\n\nnode,phase,kind,vn,p,q\nS,B,Z,15220,-1,-1\nS,CA,Z,1410,-1,-3\n") 1000000 ≡ Ok (record { text = bytes "node,va_re,va_im,vb_re,vb_im,vc_re,vc_im\nS,75616,171457,15580,8753,-15197,-130832\n\nfrom,to,ia_re,ia_im,ib_re,ib_im,ic_re,ic_im,loss_p,loss_q\n\nsweeps,source_p,source_q,drawn_p,drawn_q,lost_p,lost_q\n1,-5011149689,-15033601597,-5011149689,-15033601597,0,0\n\nto,tap_a,tap_b,tap_c\n"; sweeps = 1 })
unfolding opened
v3-00433 = refl

-- S-4, 00059-rand
v4-00059 : fitted (bytes "source,va_re,va_im,vb_re,vb_im,vc_re,vc_im,tol,sweeps\nS,-2,-1,-1,0,0,2,7,20\n\nfrom,to,phases,kind,p1,p2,p3,p4,p5,p6,p7,p8,p9,p10,p11,p12\nS,N3,ABC,D,6,8,84746,84746,84746,84746,84746,-84746,0,0,0,0\nS,N0,B,R,0,10,0,0,0,0,0,0,0,0,0,0\nN2,N4,B,R,0,10,0,0,0,0,0,0,0,0,0,0\nN0,N2,B,R,0,-4,0,0,0,0,0,0,0,0,0,0\nN0,N1,B,L,0,0,0,0,0,0,4999990,5000000,0,0,0,0\n\nnode,phase,kind,vn,p,q\nN3,AB,I,15266,1,-2\nN3,AB,Z,144,2,-1\nS,BC,I,10399,0,0\n") 1000000 ≡ Ok (record { text = bytes "node,va_re,va_im,vb_re,vb_im,vc_re,vc_im\nS,-2,-1,-1,0,0,2\nN3,-3,-4,1,1,1,3\nN0,0,0,-1,0,0,0\nN4,0,0,-1,0,0,0\nN2,0,0,-1,0,0,0\nN1,0,0,-1,0,0,0\n\nfrom,to,ia_re,ia_im,ib_re,ib_im,ic_re,ic_im,loss_p,loss_q\nS,N3,-7,-82,7,82,0,0,150,178\nS,N0,0,0,0,0,0,0,0,0\nN2,N4,0,0,0,0,0,0,0,0\nN0,N2,0,0,0,0,0,0,0,0\nN0,N1,0,0,0,0,0,0,0,0\n\nsweeps,source_p,source_q,drawn_p,drawn_q,lost_p,lost_q\n1,466,-292,438,-293,150,178\n\nto,tap_a,tap_b,tap_c\nN0,0,10,0\nN4,0,10,0\nN2,0,-4,0\n"; sweeps = 1 })
unfolding opened
v4-00059 = refl

-- S-4, 00198-rand
v4-00198 : fitted (bytes "source,va_re,va_im,vb_re,vb_im,vc_re,vc_im,tol,sweeps\n1,686512,-217029,-504291,-472968,-118242,710225,0,50\n\nfrom,to,phases,kind,p1,p2,p3,p4,p5,p6,p7,p8,p9,p10,p11,p12\n1,XTFK,ABC,L,54185395,-95582039,24560127,29065715,39068050,18387641,43352506,22341340,22503380,38623259,69737016,66911702\n1,5V,ABC,R,-4,16,5,0,0,0,0,0,0,0,0,0\n\nnode,phase,kind,vn,p,q\n1,BC,P,1724632,9,-1\n5V,C,P,746436,172,27\nXTFK,B,P,720000,17,13\n1,AB,Z,1247077,3742,3513\nXTFK,A,P,997715,87,-26\n1,CA,P,2058413,24222,29260\nXTFK,AB,Z,1203614,0,-53\n5V,C,I,746436,32,3\nXTFK,C,P,1028572,13,5\nXTFK,BC,P,1247077,18592,-1575\n5V,BC,P,1292865,154916,-46435\nXTFK,AB,Z,1247077,29,30\nXTFK,AB,Z,1385648,0,-72\n1,AB,I,1136303,3021,3056\n5V,AB,I,1292865,9,7\n5V,C,P,1029899,1068,-81\nXTFK,CA,Z,4000000,5,5\nXTFK,BC,Z,1247077,24,-4\n1,A,Z,720000,76,19\nXTFK,BC,I,1247077,140,75\nXTFK,CA,I,1247077,18320,7895\nXTFK,B,P,720000,45,14\n5V,C,P,1072369,87,13\nXTFK,AB,I,1247077,4685,1625\n1,BC,P,1082610,155,150\n") 1000000 ≡ Ok (record { text = bytes "node,va_re,va_im,vb_re,vb_im,vc_re,vc_im\n1,686512,-217029,-504291,-472968,-118242,710225\nXTFK,700213,-205536,-499047,-470029,-107476,700874\n5V,669768,-211736,-560323,-525520,-122056,733135\n\nfrom,to,ia_re,ia_im,ib_re,ib_im,ic_re,ic_im,loss_p,loss_q\n1,XTFK,913,-1558,-771,-1443,-139,2999,43221305,-6152945\n1,5V,1,0,-533,-12123,498,12296,0,0\n\nsweeps,source_p,source_q,drawn_p,drawn_q,lost_p,lost_q\n3,21372867129,-2163607259,21329475502,-2157339426,43221305,-6152945\n\nto,tap_a,tap_b,tap_c\n5V,-4,16,5\n"; sweeps = 3 })
unfolding opened
v4-00198 = refl
