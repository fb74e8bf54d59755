-- Vectors: reports that the check passes. Assumes nothing.
use Rattle.answers.specs.Answers.{done}
use Rattle.std.specs.Prelude.{◌≡◌, refl, Ok}
use Rattle.text.specs.Text.{bytes}
use Rattle.verdicts.specs.Check.{checked}
use Rattle.trials.specs.Opened.{opened}

-- 00059-31-edge-2000000-own
v00059 : checked (bytes "source,va_re,va_im,vb_re,vb_im,vc_re,vc_im,tol,sweeps\nS,100000,0,-360000,-623538,-360000,623538,1,20\n\nfrom,to,phases,kind,p1,p2,p3,p4,p5,p6,p7,p8,p9,p10,p11,p12\nS,N1,A,L,0,0,0,0,0,0,0,0,0,0,0,0\n\nnode,phase,kind,vn,p,q\nN1,A,P,100000,2000000,0\n") (bytes "node,va_re,va_im,vb_re,vb_im,vc_re,vc_im\nS,100000,0,-360000,-623538,-360000,623538\nN1,100000,0,0,0,0,0\n\nfrom,to,ia_re,ia_im,ib_re,ib_im,ic_re,ic_im,loss_p,loss_q\nS,N1,2000000,0,0,0,0,0,0,0\n\nsweeps,source_p,source_q,drawn_p,drawn_q,lost_p,lost_q\n1,200000000000,0,200000000000,0,0,0\n") ≡ Ok done
unfolding opened
v00059 = refl

-- 00184-33-edge-not-own
v00184 : checked (bytes "source,va_re,va_im,vb_re,vb_im,vc_re,vc_im,tol,sweeps\nS,1999999,0,-360000,-623538,-360000,623538,0,20\n\nfrom,to,phases,kind,p1,p2,p3,p4,p5,p6,p7,p8,p9,p10,p11,p12\nS,N1,A,L,-1000000,0,0,0,0,0,0,0,0,0,0,0\n\nnode,phase,kind,vn,p,q\nN1,A,P,720000,200,0\n") (bytes "node,va_re,va_im,vb_re,vb_im,vc_re,vc_im\nS,1999999,0,-360000,-623538,-360000,623538\nN1,2000000,0,0,0,0,0\n\nfrom,to,ia_re,ia_im,ib_re,ib_im,ic_re,ic_im,loss_p,loss_q\nS,N1,10,0,0,0,0,0,-10,0\n\nsweeps,source_p,source_q,drawn_p,drawn_q,lost_p,lost_q\n2,19999990,0,20000000,0,-10,0\n") ≡ Ok done
unfolding opened
v00184 = refl

-- 00703-ex-sweeps2
v00703 : checked (bytes "source,va_re,va_im,vb_re,vb_im,vc_re,vc_im,tol,sweeps\nS,720000,0,-360000,-623538,-360000,623538,1,20\n\nfrom,to,phases,kind,p1,p2,p3,p4,p5,p6,p7,p8,p9,p10,p11,p12\nS,N1,A,L,1000000,0,0,0,0,0,0,0,0,0,0,0\n\nnode,phase,kind,vn,p,q\nN1,A,P,720000,72000,0\n") (bytes "node,va_re,va_im,vb_re,vb_im,vc_re,vc_im\nS,720000,0,-360000,-623538,-360000,623538\nN1,719000,0,0,0,0,0\n\nfrom,to,ia_re,ia_im,ib_re,ib_im,ic_re,ic_im,loss_p,loss_q\nS,N1,10014,0,0,0,0,0,10024014,0\n\nsweeps,source_p,source_q,drawn_p,drawn_q,lost_p,lost_q\n2,7210080000,0,7200066000,0,10024014,0\n") ≡ Ok done
unfolding opened
v00703 = refl

-- 01018-wild-own
v01018 : checked (bytes "source,va_re,va_im,vb_re,vb_im,vc_re,vc_im,tol,sweeps\n92,698174,0,-316296,-653177,-360975,625228,0,47\n\nfrom,to,phases,kind,p1,p2,p3,p4,p5,p6,p7,p8,p9,p10,p11,p12\n\nnode,phase,kind,vn,p,q\n92,B,P,720000,18,5\n92,B,P,1,1,2033806\n") (bytes "node,va_re,va_im,vb_re,vb_im,vc_re,vc_im\n92,698174,0,-316296,-653177,-360975,625228\n\nfrom,to,ia_re,ia_im,ib_re,ib_im,ic_re,ic_im,loss_p,loss_q\n\nsweeps,source_p,source_q,drawn_p,drawn_q,lost_p,lost_q\n1,1944535,203381626085,1944535,203381626085,0,0\n") ≡ Ok done
unfolding opened
v01018 = refl

-- 01097-tiny-own
v01097 : checked (bytes "source,va_re,va_im,vb_re,vb_im,vc_re,vc_im,tol,sweeps\nS,188217,54420,-138000,57949,142449,-191838,0,20\n\nfrom,to,phases,kind,p1,p2,p3,p4,p5,p6,p7,p8,p9,p10,p11,p12\nS,N0,ABC,L,-98039,-32680,32680,-32680,32680,-32680,-32680,38709,-32680,15302,32680,-34378\n\nnode,phase,kind,vn,p,q\nS,A,Z,34108,0,-2\nS,B,Z,1948,-2,0\nN0,A,P,3226,-2,-1\nN0,C,Z,26843,-3,2\nS,C,Z,523,0,0\nS,A,Z,339,2,3\n") (bytes "node,va_re,va_im,vb_re,vb_im,vc_re,vc_im\nS,188217,54420,-138000,57949,142449,-191838\nN0,188217,54419,-138000,57949,142449,-191839\n\nfrom,to,ia_re,ia_im,ib_re,ib_im,ic_re,ic_im,loss_p,loss_q\nS,N0,-1,0,0,0,-113,40,40,-114\n\nsweeps,source_p,source_q,drawn_p,drawn_q,lost_p,lost_q\n2,65601678141,100218761617,65601678101,100218761731,40,-114\n") ≡ Ok done
unfolding opened
v01097 = refl

-- 01152-moved-rand
v01152 : checked (bytes "source,va_re,va_im,vb_re,vb_im,vc_re,vc_im,tol,sweeps\nS,240000,0,-120000,-207840,-120000,207840,0,100\n\nfrom,to,phases,kind,p1,p2,p3,p4,p5,p6,p7,p8,p9,p10,p11,p12\nN0,N1,A,L,-668929,48486,0,0,0,0,0,0,0,0,0,0\nS,N0,A,L,-388213,514947,0,0,0,0,0,0,0,0,0,0\nN1,N2,A,L,-1526983,1407769,0,0,0,0,0,0,0,0,0,0\n\nnode,phase,kind,vn,p,q\nN2,A,P,240000,829922,178686\n") (bytes "node,va_re,va_im,vb_re,vb_im,vc_re,vc_im\nS,240000,0,-120000,-207840,-120000,207840\nN1,258695,-29587,0,0,0,0\nN0,242412,-18686,0,0,0,0\nN2,277113,-87403,0,0,0,0\n\nfrom,to,ia_re,ia_im,ib_re,ib_im,ic_re,ic_im,loss_p,loss_q\nN0,N1,253893,-144561,0,0,0,0,-5709999180,413800830\nS,N0,253893,-144561,0,0,0,0,-3313656762,4395563466\nN1,N2,253893,-144561,0,0,0,0,-13034140050,12016553190\n\nsweeps,source_p,source_q,drawn_p,drawn_q,lost_p,lost_q\n67,60934320000,34694640000,82992115992,17868722514,-22057795992,16825917486\n") ≡ Ok done
unfolding opened
v01152 = refl

-- S-1, 00038-Z-AB-own
v1-00038 : checked (bytes "source,va_re,va_im,vb_re,vb_im,vc_re,vc_im,tol,sweeps\nS,720000,0,-360000,-623538,-360000,623538,1,20\n\nfrom,to,phases,kind,p1,p2,p3,p4,p5,p6,p7,p8,p9,p10,p11,p12\nS,N1,ABC,L,300000,600000,100000,200000,90000,180000,300000,600000,80000,170000,300000,600000\n\nnode,phase,kind,vn,p,q\nN1,AB,Z,1247077,90000,30000\n") (bytes "node,va_re,va_im,vb_re,vb_im,vc_re,vc_im\nS,720000,0,-360000,-623538,-360000,623538\nN1,719912,-329,-359912,-623209,-360006,623529\n\nfrom,to,ia_re,ia_im,ib_re,ib_im,ic_re,ic_im,loss_p,loss_q\nS,N1,7451,1522,-7451,-1522,0,0,2309808,4619984\n\nsweeps,source_p,source_q,drawn_p,drawn_q,lost_p,lost_q\n2,8996104836,3002221638,8993791984,2997586752,2309808,4619984\n") ≡ Ok done
unfolding opened
v1-00038 = refl

-- S-1, 00132-30-one-zero-P-own
v1-00132 : checked (bytes "source,va_re,va_im,vb_re,vb_im,vc_re,vc_im,tol,sweeps\nS,500000,7,0,0,0,0,1,20\n\nfrom,to,phases,kind,p1,p2,p3,p4,p5,p6,p7,p8,p9,p10,p11,p12\n\nnode,phase,kind,vn,p,q\nS,AB,P,720000,1,0\nS,BC,Z,1,1,0\n") (bytes "node,va_re,va_im,vb_re,vb_im,vc_re,vc_im\nS,500000,7,0,0,0,0\n\nfrom,to,ia_re,ia_im,ib_re,ib_im,ic_re,ic_im,loss_p,loss_q\n\nsweeps,source_p,source_q,drawn_p,drawn_q,lost_p,lost_q\n1,0,0,0,0,0,0\n") ≡ Ok done
unfolding opened
v1-00132 = refl

-- S-1, 00189-tol-(1, -1)-50
v1-00189 : checked (bytes "source,va_re,va_im,vb_re,vb_im,vc_re,vc_im,tol,sweeps\nS,720000,0,-360000,-623538,-360000,623538,50,20\n\nfrom,to,phases,kind,p1,p2,p3,p4,p5,p6,p7,p8,p9,p10,p11,p12\nS,N,ABC,L,300000,600000,100000,200000,90000,180000,300000,600000,80000,170000,300000,600000\n\nnode,phase,kind,vn,p,q\nN,AB,P,1247077,900000,100000\n") (bytes "node,va_re,va_im,vb_re,vb_im,vc_re,vc_im\nS,720000,0,-360000,-623538,-360000,623538\nN,719871,-3251,-359871,-620287,-360038,623442\n\nfrom,to,ia_re,ia_im,ib_re,ib_im,ic_re,ic_im,loss_p,loss_q\nS,N,66823,28926,-66823,-28926,0,0,211999486,424127638\n\nsweeps,source_p,source_q,drawn_p,drawn_q,lost_p,lost_q\n1,90205300188,10426599774,89999983002,9999579536,211999486,424127638\n") ≡ Ok done
unfolding opened
v1-00189 = refl

-- S-1, 00272-rand-own
v1-00272 : checked (bytes "source,va_re,va_im,vb_re,vb_im,vc_re,vc_im,tol,sweeps\nUFY,-11463,-4526,2586,11082,8702,-8263,20,2\n\nfrom,to,phases,kind,p1,p2,p3,p4,p5,p6,p7,p8,p9,p10,p11,p12\nUFY,HUE6,ABC,L,25937738,86709222,0,0,0,0,87947287,-53159829,31364226,-20277318,62675177,44119074\nHUE6,3H4D4OSM,ABC,D,416,240,63181824,80106464,39562342,53653615,22509935,85326376,0,0,0,0\nUFY,1P,ABC,L,1,-1,0,0,0,0,0,-1,0,0,0,0\nUFY,MG,ABC,R,-4,2,13,0,0,0,0,0,0,0,0,0\n\nnode,phase,kind,vn,p,q\n1P,BC,Z,675061,0,-1021\n") (bytes "node,va_re,va_im,vb_re,vb_im,vc_re,vc_im\nUFY,-11463,-4526,2586,11082,8702,-8263\nHUE6,-11463,-4526,2586,11082,8702,-8263\n3H4D4OSM,-11634,2156,8105,9005,3528,-11161\n1P,-11463,-4526,2586,11082,8702,-8263\nMG,-11183,-4416,2619,11222,9472,-8994\n\nfrom,to,ia_re,ia_im,ib_re,ib_im,ic_re,ic_im,loss_p,loss_q\nUFY,HUE6,0,0,0,0,0,0,0,0\nHUE6,3H4D4OSM,0,0,0,0,0,0,0,0\nUFY,1P,0,0,-4,-1,4,1,0,0\nUFY,MG,0,0,0,0,0,0,0,0\n\nsweeps,source_p,source_q,drawn_p,drawn_q,lost_p,lost_q\n1,5119,-83496,5119,-83496,0,0\n") ≡ Ok done
unfolding opened
v1-00272 = refl

-- S-1, 00347-rand-own
v1-00347 : checked (bytes "source,va_re,va_im,vb_re,vb_im,vc_re,vc_im,tol,sweeps\nQJZ3,205630,-123759,-206548,-122221,-2644,246615,20,5\n\nfrom,to,phases,kind,p1,p2,p3,p4,p5,p6,p7,p8,p9,p10,p11,p12\nQJZ3,UXDL,C,L,0,0,0,0,0,0,0,0,0,0,764142,-920937\n\nnode,phase,kind,vn,p,q\nUXDL,C,I,267483,12535,8507\nQJZ3,AB,Z,401469,42213,-18594\nQJZ3,A,P,240000,24905,-1252\nUXDL,C,Z,240000,38542,19139\nUXDL,C,P,199224,25,0\nQJZ3,B,P,201991,165,131\nQJZ3,A,P,240000,4328,-1119\nQJZ3,B,I,234294,12452,15384\nUXDL,C,Z,240000,3,0\nUXDL,C,Z,239429,0,-6\nUXDL,C,I,240000,115,-11\nQJZ3,B,P,276994,8,-1\nQJZ3,B,Z,240000,0,-2\nUXDL,C,I,214321,872,801\nQJZ3,B,P,240000,18,11\nQJZ3,CA,Z,415692,0,-4\nUXDL,C,P,240000,367,343\nUXDL,C,P,246013,728,-1191\nQJZ3,B,P,240000,129,118\nQJZ3,C,P,240000,3,3\nQJZ3,CA,P,449152,105,5\nQJZ3,C,I,240000,30,1\nUXDL,C,P,240000,5,4\nQJZ3,A,I,240000,1325,-147\nUXDL,C,Z,246885,6852,-1454\n") (bytes "node,va_re,va_im,vb_re,vb_im,vc_re,vc_im\nQJZ3,205630,-123759,-206548,-122221,-2644,246615\nUXDL,0,0,0,0,-5730,245640\n\nfrom,to,ia_re,ia_im,ib_re,ib_im,ic_re,ic_im,loss_p,loss_q\nQJZ3,UXDL,0,0,0,0,10200,25048,55899000,-67353128\n\nsweeps,source_p,source_q,drawn_p,drawn_q,lost_p,lost_q\n3,14977666166,1971564602,14921767166,2038917730,55899000,-67353128\n") ≡ Ok done
unfolding opened
v1-00347 = refl

-- S-1, 00435-rand-own
v1-00435 : checked (bytes "source,va_re,va_im,vb_re,vb_im,vc_re,vc_im,tol,sweeps\nF,1200000,0,-600000,-1039230,-600000,1039230,0,3\n\nfrom,to,phases,kind,p1,p2,p3,p4,p5,p6,p7,p8,p9,p10,p11,p12\nF,ZE,AC,R,-16,0,8,0,0,0,0,0,0,0,0,0\nF,2JCP7GT0,ABC,L,29978757,56110320,17490256,11903137,8995147,-12015199,73225972,43334142,32041427,33708053,72748400,-89776559\n\nnode,phase,kind,vn,p,q\nF,A,P,1300473,34,30\n2JCP7GT0,BC,Z,2078461,0,-37625\n") (bytes "node,va_re,va_im,vb_re,vb_im,vc_re,vc_im\nF,1200000,0,-600000,-1039230,-600000,1039230\nZE,1090909,0,0,0,-631579,1093926\n2JCP7GT0,1198447,-4275,-607393,-1040901,-592866,1017049\n\nfrom,to,ia_re,ia_im,ib_re,ib_im,ic_re,ic_im,loss_p,loss_q\nF,ZE,0,0,0,0,0,0,0,0\nF,2JCP7GT0,0,0,1792,-13,-1792,13,26299014,-36565069\n\nsweeps,source_p,source_q,drawn_p,drawn_q,lost_p,lost_q\n3,30619980,-3721000320,4320966,-3684435251,26299014,-36565069\n") ≡ Ok done
unfolding opened
v1-00435 = refl

-- S-3, 00027-node-over-own
v3-00027 : checked (bytes "source,va_re,va_im,vb_re,vb_im,vc_re,vc_im,tol,sweeps\nS,700001,0,-350000,-606218,0,0,1,20\n\nfrom,to,phases,kind,p1,p2,p3,p4,p5,p6,p7,p8,p9,p10,p11,p12\nS,N1,AB,L,1000,1000,0,0,0,0,1000,1000,0,0,0,0\n\nnode,phase,kind,vn,p,q\nN1,A,P,1000000,70000,9000\n") (bytes "node,va_re,va_im,vb_re,vb_im,vc_re,vc_im\nS,700001,0,-350000,-606218,0,0\nN1,700001,0,-350000,-606218,0,0\n\nfrom,to,ia_re,ia_im,ib_re,ib_im,ic_re,ic_im,loss_p,loss_q\nS,N1,10000,-1286,0,0,0,0,8714,11286\n\nsweeps,source_p,source_q,drawn_p,drawn_q,lost_p,lost_q\n1,7000010000,900201286,7000010000,900201286,8714,11286\n") ≡ Ok done
unfolding opened
v3-00027 = refl

-- S-3, 00082-node-zero-own
v3-00082 : checked (bytes "source,va_re,va_im,vb_re,vb_im,vc_re,vc_im,tol,sweeps\nS,0,0,-350000,-606218,0,0,1,20\n\nfrom,to,phases,kind,p1,p2,p3,p4,p5,p6,p7,p8,p9,p10,p11,p12\nS,N1,AB,L,1000,1000,0,0,0,0,1000,1000,0,0,0,0\n\nnode,phase,kind,vn,p,q\nN1,A,P,1000000,70000,9000\n") (bytes "node,va_re,va_im,vb_re,vb_im,vc_re,vc_im\nS,0,0,-350000,-606218,0,0\nN1,0,0,-350000,-606218,0,0\n\nfrom,to,ia_re,ia_im,ib_re,ib_im,ic_re,ic_im,loss_p,loss_q\nS,N1,0,0,0,0,0,0,0,0\n\nsweeps,source_p,source_q,drawn_p,drawn_q,lost_p,lost_q\n1,0,0,0,0,0,0\n") ≡ Ok done
unfolding opened
v3-00082 = refl

-- S-3, 00131-sweeps-930000-0-own
v3-00131 : checked (bytes "source,va_re,va_im,vb_re,vb_im,vc_re,vc_im,tol,sweeps\nS,720000,0,-360000,-623538,-360000,623538,0,40\n\nfrom,to,phases,kind,p1,p2,p3,p4,p5,p6,p7,p8,p9,p10,p11,p12\nS,N1,A,L,3000000,2000000,0,0,0,0,0,0,0,0,0,0\n\nnode,phase,kind,vn,p,q\nN1,A,P,930000,100000,20000\n") (bytes "node,va_re,va_im,vb_re,vb_im,vc_re,vc_im\nS,720000,0,-360000,-623538,-360000,623538\nN1,715241,-1945,0,0,0,0\n\nfrom,to,ia_re,ia_im,ib_re,ib_im,ic_re,ic_im,loss_p,loss_q\nS,N1,13974,-2834,0,0,0,0,60990136,40666436\n\nsweeps,source_p,source_q,drawn_p,drawn_q,lost_p,lost_q\n4,10061280000,2040480000,10000289864,1999813564,60990136,40666436\n") ≡ Ok done
unfolding opened
v3-00131 = refl

-- S-3, 00176-sweeps-990000-0-own
v3-00176 : checked (bytes "source,va_re,va_im,vb_re,vb_im,vc_re,vc_im,tol,sweeps\nS,720000,0,-360000,-623538,-360000,623538,0,40\n\nfrom,to,phases,kind,p1,p2,p3,p4,p5,p6,p7,p8,p9,p10,p11,p12\nS,N1,A,L,3000000,2000000,0,0,0,0,0,0,0,0,0,0\n\nnode,phase,kind,vn,p,q\nN1,A,P,990000,100000,20000\n") (bytes "node,va_re,va_im,vb_re,vb_im,vc_re,vc_im\nS,720000,0,-360000,-623538,-360000,623538\nN1,715241,-1945,0,0,0,0\n\nfrom,to,ia_re,ia_im,ib_re,ib_im,ic_re,ic_im,loss_p,loss_q\nS,N1,13974,-2834,0,0,0,0,60990136,40666436\n\nsweeps,source_p,source_q,drawn_p,drawn_q,lost_p,lost_q\n4,10061280000,2040480000,10000289864,1999813564,60990136,40666436\n") ≡ Ok done
unfolding opened
v3-00176 = refl

-- S-3, 00225-report-719000
v3-00225 : checked (bytes "source,va_re,va_im,vb_re,vb_im,vc_re,vc_im,tol,sweeps\nS,720000,0,-360000,-623538,-360000,623538,1000,20\n\nfrom,to,phases,kind,p1,p2,p3,p4,p5,p6,p7,p8,p9,p10,p11,p12\nS,N1,A,L,0,0,0,0,0,0,0,0,0,0,0,0\n\nnode,phase,kind,vn,p,q\nN1,A,P,1028000,72000,300\n") (bytes "node,va_re,va_im,vb_re,vb_im,vc_re,vc_im\nS,720000,0,-360000,-623538,-360000,623538\nN1,719000,0,0,0,0,0\n\nfrom,to,ia_re,ia_im,ib_re,ib_im,ic_re,ic_im,loss_p,loss_q\nS,N1,4899,-20,0,0,0,0,0,0\n\nsweeps,source_p,source_q,drawn_p,drawn_q,lost_p,lost_q\n1,3527280000,14400000,3522381000,14380000,0,0\n") ≡ Ok done
unfolding opened
v3-00225 = refl

-- S-3, 00294-rand-own
v3-00294 : checked (bytes "source,va_re,va_im,vb_re,vb_im,vc_re,vc_im,tol,sweeps\nVP,1200000,0,-604863,-1047653,-487131,1129023,20,5\n\nfrom,to,phases,kind,p1,p2,p3,p4,p5,p6,p7,p8,p9,p10,p11,p12\nVP,ESE9,ABC,R,-13,-2,-16,0,0,0,0,0,0,0,0,0\nESE9,SAQ,ABC,L,1,-1,0,0,0,0,1,0,0,0,0,0\nVP,3,AC,L,120953,218967,0,0,50216,26512,0,0,0,0,62153,60759\nESE9,XXDN,ABC,R,7,-11,-15,0,0,0,0,0,0,0,0,0\nXXDN,Z,ABC,L,22547591,-38790031,36788068,34175072,0,0,89969422,84085400,0,0,20317936,30191549\nESE9,YT,BC,L,0,0,0,0,0,0,27892505,23495455,3276194,7966548,26375252,16675264\nXXDN,L,B,R,0,-5,0,0,0,0,0,0,0,0,0,0\n3,UZ0,AC,L,156610,93594,0,0,0,0,0,0,0,0,220808,-108242\n\nnode,phase,kind,vn,p,q\nYT,BC,P,1952371,-11,-2\n3,A,Z,1200000,0,-2136\nESE9,AB,Z,1952371,0,-533\nSAQ,A,Z,1127202,812,213\nESE9,A,P,2000000,1969,887\nL,B,I,1051425,77,48\nUZ0,CA,P,1946364,157347,161415\nL,B,I,915470,-33,-203\n") (bytes "node,va_re,va_im,vb_re,vb_im,vc_re,vc_im\nVP,1200000,0,-604863,-1047653,-487131,1129023\nESE9,1109827,0,-597396,-1034719,-442846,1026385\nSAQ,1109827,0,-597396,-1034719,-442846,1026385\n3,1199779,36,0,0,-487091,1129016\nXXDN,1160603,0,-558967,-968158,-404888,938409\nZ,1160603,0,-558967,-968158,-404888,938409\nYT,0,0,-597394,-1034721,-442847,1026387\nL,0,0,-542029,-938820,0,0\nUZ0,1199645,188,0,0,-487165,1128753\n\nfrom,to,ia_re,ia_im,ib_re,ib_im,ic_re,ic_im,loss_p,loss_q\nVP,ESE9,112,-20,26,-34,0,-1,0,0\nESE9,SAQ,71,-19,0,0,0,0,0,0\nVP,3,2021,-10743,0,0,-2021,10921,990676,2724140\nESE9,XXDN,0,0,13,-12,0,0,0,0\nXXDN,Z,0,0,0,0,0,0,0,0\nESE9,YT,0,0,0,1,0,-1,4,3\nXXDN,L,0,0,13,-12,0,0,0,0\n3,UZ0,2021,-10921,0,0,-2021,10921,4653475,-183455\n\nsweeps,source_p,source_q,drawn_p,drawn_q,lost_p,lost_q\n2,15883316675,15903110717,15877036474,15902079992,5644155,2540688\n") ≡ Ok done
unfolding opened
v3-00294 = refl

-- S-3, 00379-rand-own
v3-00379 : checked (bytes "source,va_re,va_im,vb_re,vb_im,vc_re,vc_im,tol,sweeps\nS,1000000,0,-500000,-866000,-500000,866000,30,10\n\nfrom,to,phases,kind,p1,p2,p3,p4,p5,p6,p7,p8,p9,p10,p11,p12\nS,N0,A,R,3,0,0,0,0,0,0,0,0,0,0,0\nN0,N1,A,L,20711910,6849763,0,0,0,0,0,0,0,0,0,0\n\nnode,phase,kind,vn,p,q\nN1,A,I,1000000,757090,-186699\n") (bytes "node,va_re,va_im,vb_re,vb_im,vc_re,vc_im\nS,1000000,0,-500000,-866000,-500000,866000\nN0,1019108,0,0,0,0,0\nN1,867622,-77387,0,0,0,0\n\nfrom,to,ia_re,ia_im,ib_re,ib_im,ic_re,ic_im,loss_p,loss_q\nS,N0,77068,11870,0,0,0,0,0,0\nN0,N1,77068,11870,0,0,0,0,12593626706,4164926460\n\nsweeps,source_p,source_q,drawn_p,drawn_q,lost_p,lost_q\n6,78541000000,-12097000000,65947308606,-16262734456,12593626706,4164926460\n") ≡ Ok done
unfolding opened
v3-00379 = refl

-- S-3, 00461-moved34-rand
v3-00461 : checked (bytes "source,va_re,va_im,vb_re,vb_im,vc_re,vc_im,tol,sweeps\nBCPPO5QT,994453,-671613,-1031396,-613370,-15496,1199900,2,3\n\nfrom,to,phases,kind,p1,p2,p3,p4,p5,p6,p7,p8,p9,p10,p11,p12\nBCPPO5QT,QDB,ABC,L,84522992,38533779,39181442,13109289,32129838,-18188739,40275645,-88784675,22543530,17965030,60672732,-89148172\n\nnode,phase,kind,vn,p,q\nQDB,C,Z,1200000,168434,15373\nQDB,C,Z,1052572,40,37\n") (bytes "node,va_re,va_im,vb_re,vb_im,vc_re,vc_im\nBCPPO5QT,994453,-671613,-1031396,-613370,-15496,1199900\nQDB,971521,-714660,-1006907,-642534,-131169,1116753\n\nfrom,to,ia_re,ia_im,ib_re,ib_im,ic_re,ic_im,loss_p,loss_q\nBCPPO5QT,QDB,0,0,0,0,-339,13206,1058826474,-1555751265\n\nsweeps,source_p,source_q,drawn_p,drawn_q,lost_p,lost_q\n3,15851132544,-202125924,14792306409,1353638547,1058826474,-1555751265\n") ≡ Ok done
unfolding opened
v3-00461 = refl

-- S-4, 00093-moved-alltol
v4-00093 : checked (bytes "source,va_re,va_im,vb_re,vb_im,vc_re,vc_im,tol,sweeps\nDQYTYSOQ,12000,0,-5852,-10136,-6409,10145,1000,20\n\nfrom,to,phases,kind,p1,p2,p3,p4,p5,p6,p7,p8,p9,p10,p11,p12\nDQYTYSOQ,7V6C,AC,R,8,0,10,0,0,0,0,0,0,0,0,0\n7V6C,KC,A,R,-6,0,0,0,0,0,0,0,0,0,0,0\n\nnode,phase,kind,vn,p,q\nDQYTYSOQ,B,P,16720,1,0\nDQYTYSOQ,AB,I,18095,-2,6\nKC,A,P,12256,0,0\n7V6C,A,I,13014,240,-38\n7V6C,A,I,12715,19,3\nDQYTYSOQ,CA,Z,21044,0,-144\n7V6C,C,Z,12715,1538,-58\n7V6C,A,Z,12715,7,3\n7V6C,C,P,18285,39,43\nDQYTYSOQ,AB,Z,2000001,82,146\nKC,A,P,12256,207,220\nDQYTYSOQ,A,Z,12000,0,-483\n") (bytes "node,va_re,va_im,vb_re,vb_im,vc_re,vc_im\nDQYTYSOQ,12000,0,-5852,-10136,-6409,10145\n7V6C,13632,-1000,0,0,-5836,9821\nKC,11175,1000,0,0,0,0\n\nfrom,to,ia_re,ia_im,ib_re,ib_im,ic_re,ic_im,loss_p,loss_q\nDQYTYSOQ,7V6C,4004,-1632,0,0,-5846,9323,0,0\n7V6C,KC,2012,-1789,0,0,0,0,0,0\n\nsweeps,source_p,source_q,drawn_p,drawn_q,lost_p,lost_q\n14,191311364,-40908056,174304434,-46316948,0,0\n") ≡ Ok done
unfolding opened
v4-00093 = refl

-- S-4, 00199-rand-own
v4-00199 : checked (bytes "source,va_re,va_im,vb_re,vb_im,vc_re,vc_im,tol,sweeps\n1,686512,-217029,-504291,-472968,-118242,710225,0,50\n\nfrom,to,phases,kind,p1,p2,p3,p4,p5,p6,p7,p8,p9,p10,p11,p12\n1,XTFK,ABC,L,54185395,-95582039,24560127,29065715,39068050,18387641,43352506,22341340,22503380,38623259,69737016,66911702\n1,5V,ABC,R,-4,16,5,0,0,0,0,0,0,0,0,0\n\nnode,phase,kind,vn,p,q\n1,BC,P,1724632,9,-1\n5V,C,P,746436,172,27\nXTFK,B,P,720000,17,13\n1,AB,Z,1247077,3742,3513\nXTFK,A,P,997715,87,-26\n1,CA,P,2058413,24222,29260\nXTFK,AB,Z,1203614,0,-53\n5V,C,I,746436,32,3\nXTFK,C,P,1028572,13,5\nXTFK,BC,P,1247077,18592,-1575\n5V,BC,P,1292865,154916,-46435\nXTFK,AB,Z,1247077,29,30\nXTFK,AB,Z,1385648,0,-72\n1,AB,I,1136303,3021,3056\n5V,AB,I,1292865,9,7\n5V,C,P,1029899,1068,-81\nXTFK,CA,Z,4000000,5,5\nXTFK,BC,Z,1247077,24,-4\n1,A,Z,720000,76,19\nXTFK,BC,I,1247077,140,75\nXTFK,CA,I,1247077,18320,7895\nXTFK,B,P,720000,45,14\n5V,C,P,1072369,87,13\nXTFK,AB,I,1247077,4685,1625\n1,BC,P,1082610,155,150\n") (bytes "node,va_re,va_im,vb_re,vb_im,vc_re,vc_im\n1,686512,-217029,-504291,-472968,-118242,710225\nXTFK,700213,-205536,-499047,-470029,-107476,700874\n5V,669768,-211736,-560323,-525520,-122056,733135\n\nfrom,to,ia_re,ia_im,ib_re,ib_im,ic_re,ic_im,loss_p,loss_q\n1,XTFK,913,-1558,-771,-1443,-139,2999,43221305,-6152945\n1,5V,1,0,-533,-12123,498,12296,0,0\n\nsweeps,source_p,source_q,drawn_p,drawn_q,lost_p,lost_q\n3,21372867129,-2163607259,21329475502,-2157339426,43221305,-6152945\n") ≡ Ok done
unfolding opened
v4-00199 = refl
