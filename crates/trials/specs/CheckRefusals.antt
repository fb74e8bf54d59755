-- Vectors: feeders and reports that the check refuses. Assumes nothing.
use Rattle.std.specs.Prelude.{◌≡◌, refl, Err}
use Rattle.answers.specs.declared.Refusal.TheVariants.{ZeroVoltage, ReportLayout, NameDiffers, SourceDiffers, CurrentDiffers, VoltageOff, TotalDiffers}
use Rattle.text.specs.Text.{bytes}
use Rattle.verdicts.specs.Check.{checked}
use Rattle.trials.specs.Opened.{opened}

-- 01177-hit-zero
v01177 : checked (bytes "source,va_re,va_im,vb_re,vb_im,vc_re,vc_im,tol,sweeps\nTHD,175512,698280,516965,-501131,-692485,-197142,1000,10\n\nfrom,to,phases,kind,p1,p2,p3,p4,p5,p6,p7,p8,p9,p10,p11,p12\nTHD,ED,ABC,D,2,1,1,1,1,1,0,0,0,0,0,0\n\nnode,phase,kind,vn,p,q\nTHD,B,I,720000,374,-12\nTHD,B,P,703293,10,2\nED,B,I,623538,-1049,-145739\nED,B,P,508461,446,15\nTHD,C,Z,720000,122194,39733\nTHD,B,Z,720000,0,-110\nTHD,C,Z,720000,28,10\nED,C,Z,688282,0,-78425\nTHD,B,P,720000,18235,-413\nTHD,A,Z,720000,17,12\nED,B,Z,623538,993,33\nED,C,P,623538,60,-12\n") (bytes "node,va_re,va_im,vb_re,vb_im,vc_re,vc_im\nTHD,175512,698280,516965,-501131,-692485,-197142\nED,433999,447711,0,0,0,0\n\nfrom,to,ia_re,ia_im,ib_re,ib_im,ic_re,ic_im,loss_p,loss_q\nTHD,ED,0,0,0,0,0,0,0,0\n\nsweeps,source_p,source_q,drawn_p,drawn_q,lost_p,lost_q\n1,0,0,0,0,0,0\n") ≡ Err (ZeroVoltage 0)
unfolding opened
v01177 = refl

-- 00616-ex-repcut39
v00616 : checked (bytes "source,va_re,va_im,vb_re,vb_im,vc_re,vc_im,tol,sweeps\nS,720000,0,-360000,-623538,-360000,623538,1,20\n\nfrom,to,phases,kind,p1,p2,p3,p4,p5,p6,p7,p8,p9,p10,p11,p12\nS,N1,A,L,1000000,0,0,0,0,0,0,0,0,0,0,0\n\nnode,phase,kind,vn,p,q\nN1,A,P,720000,72000,0\n") (bytes "node,va_re,va_im,vb_re,vb_im,vc_re,vc_i") ≡ Err ReportLayout
unfolding opened
v00616 = refl

-- 00631-ex-repcut84
v00631 : checked (bytes "source,va_re,va_im,vb_re,vb_im,vc_re,vc_im,tol,sweeps\nS,720000,0,-360000,-623538,-360000,623538,1,20\n\nfrom,to,phases,kind,p1,p2,p3,p4,p5,p6,p7,p8,p9,p10,p11,p12\nS,N1,A,L,1000000,0,0,0,0,0,0,0,0,0,0,0\n\nnode,phase,kind,vn,p,q\nN1,A,P,720000,72000,0\n") (bytes "node,va_re,va_im,vb_re,vb_im,vc_re,vc_im\nS,720000,0,-360000,-623538,-360000,623538\nN") ≡ Err ReportLayout
unfolding opened
v00631 = refl

-- 00646-ex-repcut129
v00646 : checked (bytes "source,va_re,va_im,vb_re,vb_im,vc_re,vc_im,tol,sweeps\nS,720000,0,-360000,-623538,-360000,623538,1,20\n\nfrom,to,phases,kind,p1,p2,p3,p4,p5,p6,p7,p8,p9,p10,p11,p12\nS,N1,A,L,1000000,0,0,0,0,0,0,0,0,0,0,0\n\nnode,phase,kind,vn,p,q\nN1,A,P,720000,72000,0\n") (bytes "node,va_re,va_im,vb_re,vb_im,vc_re,vc_im\nS,720000,0,-360000,-623538,-360000,623538\nN1,719000,0,0,0,0,0\n\nfrom,to,ia_re,ia_im,ib_re") ≡ Err ReportLayout
unfolding opened
v00646 = refl

-- 00661-ex-repcut174
v00661 : checked (bytes "source,va_re,va_im,vb_re,vb_im,vc_re,vc_im,tol,sweeps\nS,720000,0,-360000,-623538,-360000,623538,1,20\n\nfrom,to,phases,kind,p1,p2,p3,p4,p5,p6,p7,p8,p9,p10,p11,p12\nS,N1,A,L,1000000,0,0,0,0,0,0,0,0,0,0,0\n\nnode,phase,kind,vn,p,q\nN1,A,P,720000,72000,0\n") (bytes "node,va_re,va_im,vb_re,vb_im,vc_re,vc_im\nS,720000,0,-360000,-623538,-360000,623538\nN1,719000,0,0,0,0,0\n\nfrom,to,ia_re,ia_im,ib_re,ib_im,ic_re,ic_im,loss_p,loss_q\nS,N1,10014,0") ≡ Err ReportLayout
unfolding opened
v00661 = refl

-- 00676-ex-repcut219
v00676 : checked (bytes "source,va_re,va_im,vb_re,vb_im,vc_re,vc_im,tol,sweeps\nS,720000,0,-360000,-623538,-360000,623538,1,20\n\nfrom,to,phases,kind,p1,p2,p3,p4,p5,p6,p7,p8,p9,p10,p11,p12\nS,N1,A,L,1000000,0,0,0,0,0,0,0,0,0,0,0\n\nnode,phase,kind,vn,p,q\nN1,A,P,720000,72000,0\n") (bytes "node,va_re,va_im,vb_re,vb_im,vc_re,vc_im\nS,720000,0,-360000,-623538,-360000,623538\nN1,719000,0,0,0,0,0\n\nfrom,to,ia_re,ia_im,ib_re,ib_im,ic_re,ic_im,loss_p,loss_q\nS,N1,10014,0,0,0,0,0,10024014,0\n\nsweeps,source_p,source_q") ≡ Err ReportLayout
unfolding opened
v00676 = refl

-- 00691-ex-repcut264
v00691 : checked (bytes "source,va_re,va_im,vb_re,vb_im,vc_re,vc_im,tol,sweeps\nS,720000,0,-360000,-623538,-360000,623538,1,20\n\nfrom,to,phases,kind,p1,p2,p3,p4,p5,p6,p7,p8,p9,p10,p11,p12\nS,N1,A,L,1000000,0,0,0,0,0,0,0,0,0,0,0\n\nnode,phase,kind,vn,p,q\nN1,A,P,720000,72000,0\n") (bytes "node,va_re,va_im,vb_re,vb_im,vc_re,vc_im\nS,720000,0,-360000,-623538,-360000,623538\nN1,719000,0,0,0,0,0\n\nfrom,to,ia_re,ia_im,ib_re,ib_im,ic_re,ic_im,loss_p,loss_q\nS,N1,10014,0,0,0,0,0,10024014,0\n\nsweeps,source_p,source_q,drawn_p,drawn_q,lost_p,lost_q\n2,7210080000,0") ≡ Err ReportLayout
unfolding opened
v00691 = refl

-- 00912-multi
v00912 : checked (bytes "source,va_re,va_im,vb_re,vb_im,vc_re,vc_im,tol,sweeps\nS,1800000,0,-900000,-1558800,-900000,1558800,0,10\n\nfrom,to,phases,kind,p1,p2,p3,p4,p5,p6,p7,p8,p9,p10,p11,p12\nS,N0,A,L,100000000,25691581,0,0,0,0,0,0,0,0,0,0\n\nnode,phase,kind,vn,p,q\nN0,A,P,1800000,559364,-194385\n") (bytes "node,va_re,va_im,vb_re,vb_im,vc_re,vc_im\nS,1800010,0,-900000,99999999998441200,-900000,1558800\nN0,1415074,-187830,0,0,0,0\n\nfrom,to,ia_re,ia_im,ib_re,ib_im,ic_re,ic_im,loss_p,loss_q\nS,N0,40636,8343,0,0,0,0,17208918626,4421222262\n\nsweeps,source_p,source_q,drawn_p,drawn_q,lost_p,lost_q\n10,73144800000,-15017400000,55935881374,-19438622263,2000002,4421222262\n") ≡ Err ReportLayout
unfolding opened
v00912 = refl

-- 00981-multi
v00981 : checked (bytes "source,va_re,va_im,vb_re,vb_im,vc_re,vc_im,tol,sweeps\nWQ7N21BP,-167835,700165,682533,-229234,-571618,-504569,0,10\n\nfrom,to,phases,kind,p1,p2,p3,p4,p5,p6,p7,p8,p9,p10,p11,p12\nWQ7N21BP,6A,ABC,Y,60,1,90332975,32146936,63902692,25772307,50006154,71994694,0,0,0,0\nWQ7N21BP,NR,ABC,D,165447,2400,1,1,1,1,0,1,0,0,0,0\nWQ7N21BP,QXJR4WVI,AC,R,14,0,-6,0,0,0,0,0,0,0,0,0\nH,ST,ABC,R,14,-13,-4,0,0,0,0,0,0,0,0,0\nWQ7N21BP,1U,AC,L,83002789,28594200,0,0,0,0,0,0,0,0,32984342,24484624\nWQ7N21BP,RWXTIPIM,A,R,2,0,0,0,0,0,0,0,0,0,0,0\nWQ7N21BP,H,ABC,R,9,13,5,0,0,0,0,0,0,0,0,0\nO6T,F72,ABC,L,90635887,31324454,0,0,0,0,92349915,81060232,23137669,26805710,39528655,25619453\n6CH,O6T,ABC,L,1,1,0,0,0,0,0,0,0,0,1,-1\nWQ7N21BP,W,BC,L,0,0,0,0,0,0,46697754,-86411247,0,0,56295183,-25655847\nWQ7N21BP,6CH,ABC,D,459,503,23109417,53489925,65333005,74891229,32368434,43138298,0,0,0,0\nWQ7N21BP,XU,ABC,L,27497281,32813974,0,0,12689104,12866328,66383296,54040878,0,0,52640036,-77628683\n\nnode,phase,kind,vn,p,q\n") (bytes "node,va_re,va_im,vb_re,vb_im,vc_re,vc_im\nWQ7N21BP,-167835,700165,682533,-229234,-571618,-504569\n6A,-2797,11669,11376,-3821,-9527,-8409\nNR,5857,17476,12336,-13482,-18193,-3994\nQXJR4WVI,-183929,767304,0,0,-550957,-486332\nST,-194891,813038,687069,-230757,-575665,-508141\n1U,-167835,700165,0,0,-571618,-504569\nRWXTIPIM,-169959,709028,0,0,0,0\nH,-177838,741897,742893,-249506,-590057,-520845\nF72,442490,1320220,931885,-1018492,-1374375,-301729\nO6T,442490,1320220,931885,-1018492,-1374375,-301729\nW,0,0,682533,-229234,-571618,-504569\n6CH,442490,1320220,931885,-1018492,-1374375,-301729\nXU,-167835,700165,682533,-229234,-571618,-2000001\n\nfrom,to,ia_re,ia_im,ib_re,ib_im,ic_re,ic_im,loss_p,loss_q\nWQ7N21BP,6A,0,0,0,0,0,0,0,0\nWQ7N21BP,NR,0,0,0,0,0,0,0,0\nWQ7N21BP,QXJR4WVI,0,0,0,0,0,0,0,0\nH,ST,0,0,0,0,0,0,0,0\nWQ7N21BP,1U,2000000,0,0,0,0,0,0,0\nWQ7N21BP,RWXTIPIM,0,0,0,0,0,0,0,0\nWQ7N21BP,H,0,0,0,0,0,0,0,0\nO6T,F72,0,0,0,0,0,0,0,-1\n6CH,O6T,0,0,0,0,0,0,0,0\nWQ7N21BP,W,0,0,0,0,0,0,0,0\nWQ7N21BP,6CH,0,0,0,0,0,0,0,0\nWQ7N21BP,XU,0,0,0,0,0,0,0,0\n\nsweeps,source_p,source_q,drawn_p,drawn_q,lost_p,lost_q\n1,0,0,0,0,0,0\n") ≡ Err ReportLayout
unfolding opened
v00981 = refl

-- 01063-multi
v01063 : checked (bytes "source,va_re,va_im,vb_re,vb_im,vc_re,vc_im,tol,sweeps\nS,9,4,-5,8,-6,1,0,10\n\nfrom,to,phases,kind,p1,p2,p3,p4,p5,p6,p7,p8,p9,p10,p11,p12\nS,N0,B,L,0,0,0,0,0,0,5000000,5000000,0,0,0,0\n\nnode,phase,kind,vn,p,q\nS,A,P,22806,2,0\n") (bytes "node,va_re,va_im,vb_re,vb_im,vc_re,vc_im\nS,N1,4,-5,8,-6,1\nN0,0,0,-5,8,0,0\n\nfrom,to,ia_re,ia_im,ib_re,ib_im,ic_re,ic_im,loss_p,loss_q\nS,N0,0,0,0,0,0,0,0,0\n\nsweeps,source_p,source_q,drawn_p,drawn_q,lost_p,lost_q\n1,200001,5,200001,5,0,0\n") ≡ Err ReportLayout
unfolding opened
v01063 = refl

-- 00326-ex-name15
v00326 : checked (bytes "source,va_re,va_im,vb_re,vb_im,vc_re,vc_im,tol,sweeps\nS,720000,0,-360000,-623538,-360000,623538,1,20\n\nfrom,to,phases,kind,p1,p2,p3,p4,p5,p6,p7,p8,p9,p10,p11,p12\nS,N1,A,L,1000000,0,0,0,0,0,0,0,0,0,0,0\n\nnode,phase,kind,vn,p,q\nN1,A,P,720000,72000,0\n") (bytes "node,va_re,va_im,vb_re,vb_im,vc_re,vc_im\nS,720000,0,-360000,-623538,-360000,623538\nN1,719000,0,0,0,0,0\n\nfrom,to,ia_re,ia_im,ib_re,ib_im,ic_re,ic_im,loss_p,loss_q\nS,Q9,10014,0,0,0,0,0,10024014,0\n\nsweeps,source_p,source_q,drawn_p,drawn_q,lost_p,lost_q\n2,7210080000,0,7200066000,0,10024014,0\n") ≡ Err (NameDiffers 6)
unfolding opened
v00326 = refl

-- 00307-ex-num4-1
v00307 : checked (bytes "source,va_re,va_im,vb_re,vb_im,vc_re,vc_im,tol,sweeps\nS,720000,0,-360000,-623538,-360000,623538,1,20\n\nfrom,to,phases,kind,p1,p2,p3,p4,p5,p6,p7,p8,p9,p10,p11,p12\nS,N1,A,L,1000000,0,0,0,0,0,0,0,0,0,0,0\n\nnode,phase,kind,vn,p,q\nN1,A,P,720000,72000,0\n") (bytes "node,va_re,va_im,vb_re,vb_im,vc_re,vc_im\nS,720000,0,-360000,-623539,-360000,623538\nN1,719000,0,0,0,0,0\n\nfrom,to,ia_re,ia_im,ib_re,ib_im,ic_re,ic_im,loss_p,loss_q\nS,N1,10014,0,0,0,0,0,10024014,0\n\nsweeps,source_p,source_q,drawn_p,drawn_q,lost_p,lost_q\n2,7210080000,0,7200066000,0,10024014,0\n") ≡ Err (SourceDiffers 2)
unfolding opened
v00307 = refl

-- 00941-edit
v00941 : checked (bytes "source,va_re,va_im,vb_re,vb_im,vc_re,vc_im,tol,sweeps\n4,240163,14250,-120000,-207846,-126442,207507,0,10\n\nfrom,to,phases,kind,p1,p2,p3,p4,p5,p6,p7,p8,p9,p10,p11,p12\n4,H5P,ABC,Y,1,1,78303422,87978371,33576266,87576058,73000714,86574775,0,0,0,0\n4,O,ABC,R,-2,16,8,0,0,0,0,0,0,0,0,0\nO,BGLYCJEP,B,L,0,0,0,0,0,0,66121344,-40145051,0,0,0,0\nO,SRITVM71,AB,L,10381434,43542289,17121500,-9443109,0,0,17044876,-30653016,0,0,0,0\n4,CV,ABC,D,139,240,73985376,79261131,30235710,51764461,77494584,94996767,0,0,0,0\nO,MP,ABC,L,6658394,11747713,1345591,1836278,0,0,6625959,4799476,0,0,6167716,-8550909\nCV,7K,A,L,1,1,0,0,0,0,0,0,0,0,0,0\nCV,B2TBDG9G,A,R,3,0,0,0,0,0,0,0,0,0,0,0\n\nnode,phase,kind,vn,p,q\n4,A,Z,240000,0,-1229\nSRITVM71,B,Z,251528,3990,2191\n4,B,I,240000,16094,9662\n7K,A,I,717742,64,20\n7K,A,P,763914,2667,-56\nO,C,Z,228289,0,-6\nMP,B,Z,251528,0,-156\n4,A,P,240000,24,4\nH5P,A,P,240000,38,1\nBGLYCJEP,B,I,204066,-61,-36\nCV,B,I,717742,86,-13\n7K,A,Z,635779,483,422\nMP,C,I,251528,33847,11732\nO,C,P,251528,28,-5\n4,C,I,240000,55,-2\nMP,C,P,251528,176,72\nO,B,P,251528,637,340\nSRITVM71,B,P,266736,2,0\nBGLYCJEP,B,P,251528,-7,-50\nO,C,Z,251528,0,-32\nO,A,P,266784,29,31\nSRITVM71,B,Z,262094,3594,3786\nCV,A,P,608794,1433,-14\n4,A,I,240000,23662,2436\nB2TBDG9G,A,P,634640,11035,-18612\n") (bytes "node,va_re,va_im,vb_re,vb_im,vc_re,vc_im\n4,240163,14250,-119998,-207846,-126442,207507\nH5P,240047,14101,-120000,-207846,-126442,207507\nO,237198,14074,-133333,-230940,-133097,218428\nBGLYCJEP,0,0,-133691,-230813,0,0\nSRITVM71,244852,13564,-122181,-239001,0,0\nCV,617736,-366641,-621878,-383404,-11123,717156\nMP,237184,14068,-133387,-230945,-142542,206653\n7K,617736,-366641,0,0,0,0\nB2TBDG9G,629540,-373647,0,0,0,0\n\nfrom,to,ia_re,ia_im,ib_re,ib_im,ic_re,ic_im,loss_p,loss_q\n4,H5P,16,1,0,0,0,0,2005,2268\n4,O,13,-12,-3679,-1828,-3838,13798,0,0\nO,BGLYCJEP,0,0,48,10,0,0,15914,-9676\nO,SRITVM71,0,0,-3554,-1662,0,0,26236826,-47183418\n4,CV,3182,1046,-9,-8,0,0,83005284,88926925\nO,MP,0,0,57,-33,-3817,13799,126434573,-175274663\nCV,7K,365,-298,0,0,0,0,0,0\nCV,B2TBDG9G,2594,1417,0,0,0,0,0,0\n\nsweeps,source_p,source_q,drawn_p,drawn_q,lost_p,lost_q\n5,10107639446,968682220,9871467879,1102195861,235694602,-133538564\n") ≡ Err (SourceDiffers 2)
unfolding opened
v00941 = refl

-- 00334-ex-num19-1
v00334 : checked (bytes "source,va_re,va_im,vb_re,vb_im,vc_re,vc_im,tol,sweeps\nS,720000,0,-360000,-623538,-360000,623538,1,20\n\nfrom,to,phases,kind,p1,p2,p3,p4,p5,p6,p7,p8,p9,p10,p11,p12\nS,N1,A,L,1000000,0,0,0,0,0,0,0,0,0,0,0\n\nnode,phase,kind,vn,p,q\nN1,A,P,720000,72000,0\n") (bytes "node,va_re,va_im,vb_re,vb_im,vc_re,vc_im\nS,720000,0,-360000,-623538,-360000,623538\nN1,719000,0,0,0,0,0\n\nfrom,to,ia_re,ia_im,ib_re,ib_im,ic_re,ic_im,loss_p,loss_q\nS,N1,10014,0,0,-1,0,0,10024014,0\n\nsweeps,source_p,source_q,drawn_p,drawn_q,lost_p,lost_q\n2,7210080000,0,7200066000,0,10024014,0\n") ≡ Err (CurrentDiffers 6)
unfolding opened
v00334 = refl

-- 00727-order-31-over-53
v00727 : checked (bytes "source,va_re,va_im,vb_re,vb_im,vc_re,vc_im,tol,sweeps\nS,720000,0,-360000,-623538,-360000,623538,1,20\n\nfrom,to,phases,kind,p1,p2,p3,p4,p5,p6,p7,p8,p9,p10,p11,p12\nS,N1,A,L,1000000,0,0,0,0,0,0,0,0,0,0,0\n\nnode,phase,kind,vn,p,q\nN1,A,P,720000,72000,0\n") (bytes "node,va_re,va_im,vb_re,vb_im,vc_re,vc_im\nS,720000,0,-360000,-623538,-360000,623538\nN1,1,0,0,0,0,0\n\nfrom,to,ia_re,ia_im,ib_re,ib_im,ic_re,ic_im,loss_p,loss_q\nS,N1,1,1,0,0,0,0,1,1\n\nsweeps,source_p,source_q,drawn_p,drawn_q,lost_p,lost_q\n1,1,1,1,1,1,1\n") ≡ Err (CurrentDiffers 6)
unfolding opened
v00727 = refl

-- 01078-moved-tol+1
v01078 : checked (bytes "source,va_re,va_im,vb_re,vb_im,vc_re,vc_im,tol,sweeps\nS,-197,186,-222,246,-92,2,0,10\n\nfrom,to,phases,kind,p1,p2,p3,p4,p5,p6,p7,p8,p9,p10,p11,p12\nS,N1,C,L,0,0,0,0,0,0,0,0,0,0,1163,3489\nS,N0,ABC,D,9,2,-5000000,-4999990,-15000000,5000000,5000000,4999990,0,0,0,0\n\nnode,phase,kind,vn,p,q\nN1,C,P,258510,3,-1\n") (bytes "node,va_re,va_im,vb_re,vb_im,vc_re,vc_im\nS,-197,186,-222,246,-92,2\nN1,0,0,0,0,-92,3\nN0,-23,42,-6,13,29,-54\n\nfrom,to,ia_re,ia_im,ib_re,ib_im,ic_re,ic_im,loss_p,loss_q\nS,N1,0,0,0,0,-3293,-980,980,3293\nS,N0,0,0,0,0,0,0,0,0\n\nsweeps,source_p,source_q,drawn_p,drawn_q,lost_p,lost_q\n7,300996,-96746,300016,-100039,980,3293\n") ≡ Err (CurrentDiffers 7)
unfolding opened
v01078 = refl

-- 00711-54-worked-overflow-reversed
v00711 : checked (bytes "source,va_re,va_im,vb_re,vb_im,vc_re,vc_im,tol,sweeps\nS,2000000,-2000000,2000000,-2000000,2000000,-2000000,1000,5\n\nfrom,to,phases,kind,p1,p2,p3,p4,p5,p6,p7,p8,p9,p10,p11,p12\nN4,N5,ABC,Y,1,1000000,0,0,0,0,0,0,0,0,0,0\nN3,N4,ABC,Y,1,1000000,0,0,0,0,0,0,0,0,0,0\nN2,N3,ABC,Y,1,1000000,0,0,0,0,0,0,0,0,0,0\nN1,N2,ABC,Y,1,1000000,0,0,0,0,0,0,0,0,0,0\nN0,N1,ABC,Y,1,1000000,0,0,0,0,0,0,0,0,0,0\nS,N0,ABC,Y,1,1000000,0,0,0,0,0,0,0,0,0,0\n\nnode,phase,kind,vn,p,q\n") (bytes "node,va_re,va_im,vb_re,vb_im,vc_re,vc_im\nS,2000000,-2000000,2000000,-2000000,2000000,-2000000\nN5,2000000,-2000000,2000000,-2000000,2000000,-2000000\nN4,2000000,-2000000,2000000,-2000000,2000000,-2000000\nN3,2000000,-2000000,2000000,-2000000,2000000,-2000000\nN2,2000000,-2000000,2000000,-2000000,2000000,-2000000\nN1,2000000,-2000000,2000000,-2000000,2000000,-2000000\nN0,2000000,-2000000,2000000,-2000000,2000000,-2000000\n\nfrom,to,ia_re,ia_im,ib_re,ib_im,ic_re,ic_im,loss_p,loss_q\nN4,N5,0,0,0,0,0,0,0,0\nN3,N4,0,0,0,0,0,0,0,0\nN2,N3,0,0,0,0,0,0,0,0\nN1,N2,0,0,0,0,0,0,0,0\nN0,N1,0,0,0,0,0,0,0,0\nS,N0,0,0,0,0,0,0,0,0\n\nsweeps,source_p,source_q,drawn_p,drawn_q,lost_p,lost_q\n1,0,0,0,0,0,0\n") ≡ Err (VoltageOff 8)
unfolding opened
v00711 = refl

-- 00314-ex-num8-1
v00314 : checked (bytes "source,va_re,va_im,vb_re,vb_im,vc_re,vc_im,tol,sweeps\nS,720000,0,-360000,-623538,-360000,623538,1,20\n\nfrom,to,phases,kind,p1,p2,p3,p4,p5,p6,p7,p8,p9,p10,p11,p12\nS,N1,A,L,1000000,0,0,0,0,0,0,0,0,0,0,0\n\nnode,phase,kind,vn,p,q\nN1,A,P,720000,72000,0\n") (bytes "node,va_re,va_im,vb_re,vb_im,vc_re,vc_im\nS,720000,0,-360000,-623538,-360000,623538\nN1,718999,0,0,0,0,0\n\nfrom,to,ia_re,ia_im,ib_re,ib_im,ic_re,ic_im,loss_p,loss_q\nS,N1,10014,0,0,0,0,0,10024014,0\n\nsweeps,source_p,source_q,drawn_p,drawn_q,lost_p,lost_q\n2,7210080000,0,7200066000,0,10024014,0\n") ≡ Err TotalDiffers
unfolding opened
v00314 = refl

-- 00353-ex-num29+1
v00353 : checked (bytes "source,va_re,va_im,vb_re,vb_im,vc_re,vc_im,tol,sweeps\nS,720000,0,-360000,-623538,-360000,623538,1,20\n\nfrom,to,phases,kind,p1,p2,p3,p4,p5,p6,p7,p8,p9,p10,p11,p12\nS,N1,A,L,1000000,0,0,0,0,0,0,0,0,0,0,0\n\nnode,phase,kind,vn,p,q\nN1,A,P,720000,72000,0\n") (bytes "node,va_re,va_im,vb_re,vb_im,vc_re,vc_im\nS,720000,0,-360000,-623538,-360000,623538\nN1,719000,0,0,0,0,0\n\nfrom,to,ia_re,ia_im,ib_re,ib_im,ic_re,ic_im,loss_p,loss_q\nS,N1,10014,0,0,0,0,0,10024014,0\n\nsweeps,source_p,source_q,drawn_p,drawn_q,lost_p,lost_q\n2,7210080000,0,7200066000,0,10024015,0\n") ≡ Err TotalDiffers
unfolding opened
v00353 = refl

-- 01167-tiny-own
v01167 : checked (bytes "source,va_re,va_im,vb_re,vb_im,vc_re,vc_im,tol,sweeps\nS,0,-2,2,-3,2,-1,0,20\n\nfrom,to,phases,kind,p1,p2,p3,p4,p5,p6,p7,p8,p9,p10,p11,p12\nS,N1,BC,L,0,0,0,0,0,0,4212,-6354,12637,4212,1424,12637\nN3,N4,B,R,0,12,0,0,0,0,0,0,0,0,0,0\nS,N0,ABC,D,8,9,-4999990,5000000,5000000,-15000000,4999990,5000000,0,0,0,0\nS,N3,B,R,0,12,0,0,0,0,0,0,0,0,0,0\nN1,N2,C,R,0,0,9,0,0,0,0,0,0,0,0,0\n\nnode,phase,kind,vn,p,q\nN4,B,Z,3539,1,0\nN1,C,I,337,-3,1\nS,A,P,5110,1,3\n") (bytes "node,va_re,va_im,vb_re,vb_im,vc_re,vc_im\nS,0,-2,2,-3,2,-1\nN1,0,0,3,-2,2,0\nN4,0,0,2,-3,0,0\nN0,-2,-1,2,-1,0,2\nN3,0,0,2,-3,0,0\nN2,0,0,0,0,2,0\n\nfrom,to,ia_re,ia_im,ib_re,ib_im,ic_re,ic_im,loss_p,loss_q\nS,N1,0,0,0,0,-890,-297,297,890\nN3,N4,0,0,0,0,0,0,0,0\nS,N0,0,0,0,0,0,0,0,0\nS,N3,0,0,0,0,0,0,0,0\nN1,N2,0,0,0,0,0,0,0,0\n\nsweeps,source_p,source_q,drawn_p,drawn_q,lost_p,lost_q\n3,98517,301484,98220,300594,297,890\n") ≡ Err TotalDiffers
unfolding opened
v01167 = refl

-- S-1, 00228-edit
v1-00228 : checked (bytes "source,va_re,va_im,vb_re,vb_im,vc_re,vc_im,tol,sweeps\nS,1800000,0,-900000,-1558800,-900000,1558800,30,100\n\nfrom,to,phases,kind,p1,p2,p3,p4,p5,p6,p7,p8,p9,p10,p11,p12\nS,N0,ABC,L,-100000000,100000000,-25000000,25000000,0,0,-100000000,100000000,0,0,-100000000,100000000\n\nnode,phase,kind,vn,p,q\nN0,AB,I,3117691,377960,-143886\nN0,B,P,1800000,403935,19821\nN0,CA,Z,3117691,0,-199602\nN0,C,Z,1800000,364611,174972\n") (bytes "node,va_re,va_im,vb_re,vb_im,vc_re,vc_im\nS,1800000,0,-900000,99999999998441200,-900000,1558800\nN0,1958645,20905,-1295208,-1571743,-740520,1765880\n\nfrom,to,ia_re,ia_im,ib_re,ib_im,ic_re,ic_im,loss_p,loss_q\nS,N0,12443,15018,-22224,-24164,-2380,18328,-14799602223,14799579999\n\nsweeps,source_p,source_q,drawn_p,drawn_q,lost_p,lost_q\n7,110774412000,-1350172800,125574014223,-16149752799,-14799602223,14799579999\n") ≡ Err ReportLayout
unfolding opened
v1-00228 = refl

-- S-1, 00332-edit
v1-00332 : checked (bytes "source,va_re,va_im,vb_re,vb_im,vc_re,vc_im,tol,sweeps\nS,1800000,0,-900000,-1558800,-900000,1558800,0,100\n\nfrom,to,phases,kind,p1,p2,p3,p4,p5,p6,p7,p8,p9,p10,p11,p12\nS,N0,A,L,100000000,100000000,0,0,0,0,0,0,0,0,0,0\nN0,N1,A,R,-1,0,0,0,0,0,0,0,0,0,0,0\n\nnode,phase,kind,vn,p,q\nN1,A,P,1800000,85343,34386\nN1,A,Z,1800000,0,-12676\n") (bytes "node,va_re,va_im,vb_re,vb_im,vc_re,vc_im\nS,1799998,0,-900000,-1558800,-900000,1558800\nN0,1737090,-34790,0,0,0,0\nN1,1726301,-34574,0,0,0,0\n\nfrom,to,ia_re,ia_im,ib_re,ib_im,ic_re,ic_im,loss_p,loss_q\nS,N0,4885,-1406,0,0,0,0,258400610,258400610\nN0,N1,4916,-1415,-2000001,0,0,0,0,0\n\nsweeps,source_p,source_q,drawn_p,drawn_q,lost_p,lost_q\n4,8793000000,2530800000,8535417926,2272750131,258400610,258400610\n") ≡ Err ReportLayout
unfolding opened
v1-00332 = refl

-- S-1, 00426-repmangle
v1-00426 : checked (bytes "source,va_re,va_im,vb_re,vb_im,vc_re,vc_im,tol,sweeps\nX2,81,0,-37,-66,-39,74,20,50\n\nfrom,to,phases,kind,p1,p2,p3,p4,p5,p6,p7,p8,p9,p10,p11,p12\nX2,5KWH,ABC,L,244,69,37,107,94,-72,267,236,84,27,161,-252\n5KWH,92,ABC,L,0,0,0,0,0,0,1,-1,0,0,1,1\n\nnode,phase,kind,vn,p,q\n92,C,P,79,12,14\nX2,CA,P,137,0,0\n5KWH,AB,Z,137,0,0\n5KWH,A,Z,79,0,0\n5KWH,B,I,79,0,0\n") (bytes "node,va_re,va_im,vb_re,vb_im,vc_re,vc_im\nX2,81,0,-37,-66,-39,74\n5KWH,81,0,-37,-66,-39,74\n92,81,0,-37,-66,-39,74\n\nfrom,to,ia_re,ia_im,ib_re,ib_im,ic_re,ic_im,loss_p,loss_q\nX2,5KWH,0,0,0,0,8118,20494,8118,-20494\n5KWH,92,0,0\n0,0,8118,20494,0,0\n\nsweeps,source_p,source_q,drawn_p,drawn_q,lost_p,lost_q\n1,1199954,1399998,1199954,1399998,8118,-20494\n") ≡ Err ReportLayout
unfolding opened
v1-00426 = refl

-- S-1, 00490-repmangle
v1-00490 : checked (bytes "source,va_re,va_im,vb_re,vb_im,vc_re,vc_im,tol,sweeps\nS,2000000,0,0,0,0,0,1,100\n\nfrom,to,phases,kind,p1,p2,p3,p4,p5,p6,p7,p8,p9,p10,p11,p12\nS,N,ABC,L,-5000000,0,0,0,0,0,5000000,0,0,0,0,5000000\n\nnode,phase,kind,vn,p,q\nN,AB,Z,3464102,-6,-24\n") (bytes "node,va_re,va_im,vb_re,vb_im,vc_re,vc_im\nS,2000000,0,0,0,0,0\nN,2000000,0,0,0,0,0\n\nfrom,to,ia_re,ia_im,ib_re,ib_im,ic_re,ic_im,loss_p,loss_q\nS,N,0,0,0,0,0,0,0,0\n\nsweeps,source_p,source_q,drawn_p,drawn_q,lost_p,lost_q\n1,0,0,0,0,0,0\n\n\n") ≡ Err ReportLayout
unfolding opened
v1-00490 = refl

-- S-1, 00424-edit
v1-00424 : checked (bytes "source,va_re,va_im,vb_re,vb_im,vc_re,vc_im,tol,sweeps\nX2,81,0,-37,-66,-39,74,20,50\n\nfrom,to,phases,kind,p1,p2,p3,p4,p5,p6,p7,p8,p9,p10,p11,p12\nX2,5KWH,ABC,L,244,69,37,107,94,-72,267,236,84,27,161,-252\n5KWH,92,ABC,L,0,0,0,0,0,0,1,-1,0,0,1,1\n\nnode,phase,kind,vn,p,q\n92,C,P,79,12,14\nX2,CA,P,137,0,0\n5KWH,AB,Z,137,0,0\n5KWH,A,Z,79,0,0\n5KWH,B,I,79,0,0\n") (bytes "node,va_re,va_im,vb_re,vb_im,vc_re,vc_im\nX2,81,0,-37,-66,-39,74\n5KWH,81,0,-37,-64,-39,74\n2000001,81,0,-37,-66,-39,74\n\nfrom,to,ia_re,ia_im,ib_re,ib_im,ic_re,ic_im,loss_p,loss_q\nX2,5KWH,0,0,0,0,8118,20494,8118,-20494\n5KWH,92,0,0,-2,0,8118,20494,0,0\n\nsweeps,source_p,source_q,drawn_p,drawn_q,lost_p,lost_q\n1,1199954,1399998,1199954,1399998,8118,-20494\n") ≡ Err (NameDiffers 4)
unfolding opened
v1-00424 = refl

-- S-1, 00331-edit
v1-00331 : checked (bytes "source,va_re,va_im,vb_re,vb_im,vc_re,vc_im,tol,sweeps\nS,1800000,0,-900000,-1558800,-900000,1558800,0,100\n\nfrom,to,phases,kind,p1,p2,p3,p4,p5,p6,p7,p8,p9,p10,p11,p12\nS,N0,A,L,100000000,100000000,0,0,0,0,0,0,0,0,0,0\nN0,N1,A,R,-1,0,0,0,0,0,0,0,0,0,0,0\n\nnode,phase,kind,vn,p,q\nN1,A,P,1800000,85343,34386\nN1,A,Z,1800000,0,-12676\n") (bytes "node,va_re,va_im,vb_re,vb_im,vc_re,vc_im\nS,1799999,0,-900000,-1558800,-900000,1558800\nN0,1737090,-34790,0,0,0,0\nN1,1726301,-34574,0,0,0,0\n\nfrom,to,ia_re,ia_im,ib_re,ib_im,ic_re,ic_im,loss_p,loss_q\nS,N0,4885,-1406,0,0,0,0,258400610,258400610\nN0,N1,4916,-1415,0,0,0,0,100000000000000001,0\n\nsweeps,source_p,source_q,drawn_p,drawn_q,lost_p,lost_q\n5,8793000000,2530800000,8535417926,2272750131,258400610,258400610\n") ≡ Err (SourceDiffers 2)
unfolding opened
v1-00331 = refl

-- S-1, 00293-edit
v1-00293 : checked (bytes "source,va_re,va_im,vb_re,vb_im,vc_re,vc_im,tol,sweeps\n10,23634,-1011,-11775,-20396,-11135,20872,1000,20\n\nfrom,to,phases,kind,p1,p2,p3,p4,p5,p6,p7,p8,p9,p10,p11,p12\n10,KLWD,AC,L,62442,21135,0,0,0,0,0,0,0,0,65733,40326\nKLWD,O,AC,L,54062,-25302,0,0,25272,28233,0,0,0,0,67613,-31093\n10,MUC,ABC,L,86323,37720,26146,-49363,0,0,102081,140433,0,0,144565,66331\nO,FL6Q,AC,L,1,1,0,0,0,0,0,0,0,0,1,0\nMUC,5P,ABC,L,1960,3015,1250,1066,1192,959,901,1387,1287,-376,3349,2971\n\nnode,phase,kind,vn,p,q\nO,CA,Z,36645,592,304\n5P,CA,P,40973,587,-110\n10,A,Z,24482,2386,302\nFL6Q,A,I,24442,125,41\nMUC,AB,P,40973,500,225\n5P,BC,Z,40973,0,-250\n10,CA,Z,2224976,-532,41\nMUC,B,P,23656,27,23\n5P,C,Z,23656,468,439\nMUC,AB,Z,40973,0,0\n5P,A,I,25694,4,5\nO,CA,I,40973,31,22\nO,A,P,25346,392,43\n10,B,P,23656,81,-20\nFL6Q,CA,P,40973,2726,-246\nMUC,C,I,19653,141,-33\nFL6Q,CA,I,39009,151,-731\nKLWD,C,Z,26439,-2,-2\nKLWD,A,P,22614,43,-11\n10,AB,P,40973,935,811\nMUC,AB,P,40973,3,-1\n5P,B,P,23656,8,5\n10,CA,Z,40617,0,-28\nO,C,P,23656,164,37\nFL6Q,CA,P,40973,47,-9\n") (bytes "node,va_re,va_im,vb_re,vb_im,vc_re,vc_im\n10,23634,-1011,-11775,-20396,-11135,20872\nKLWD,23634,-1011,0,0,-11135,20872\nO,23634,-1011,0,0,-11135,20872\nMUC,23634,-1011,-11775,-20396,-11135,20872\nFL6Q,23634,-1011,0,0,-11135,20872\n5P,23634,-1011,-11775,-20396,-11135,20872\n\nfrom,to,ia_re,ia_im,ib_re,ib_im,ic_re,ic_im,loss_p,loss_q\n10,KLWD,10777,-3930,0,0,-8632,4204,1436252,648646\nKLWD,O,10593,-3969,0,0,-8629,4213,770758,-1218885\n10,MUC,2726,-442,-921,-191,-1747,3717,305955,178513\nO,FL6Q,7873,-1879,0,0,-7369,1690,0,0\nMUC,5P,1367,-554,580,-29,-1261,3173,3841,3849\n\nsweeps,source_p,source_q,drawn_p,drawn_q,lost_p,lost_q\n1,943510603,82198464,943510603,82198464,2516806,-387876\n") ≡ Err (CurrentDiffers 14)
unfolding opened
v1-00293 = refl

-- S-1, 00498-edit
v1-00498 : checked (bytes "source,va_re,va_im,vb_re,vb_im,vc_re,vc_im,tol,sweeps\nS,103,208,-257,-277,74,6,0,20\n\nfrom,to,phases,kind,p1,p2,p3,p4,p5,p6,p7,p8,p9,p10,p11,p12\nS,N0,ABC,Y,5,5,-5000000,-4079422,5000000,5150981,2306961,15000000,0,0,0,0\nN0,N3,ABC,D,5,2,-15000000,559177,5000000,9785380,5000000,4656983,0,0,0,0\nS,N4,AB,R,-12,-7,0,0,0,0,0,0,0,0,0,0\nN0,N2,C,L,0,0,0,0,0,0,0,0,0,0,4999990,5000000\nN0,N1,B,R,0,11,0,0,0,0,0,0,0,0,0,0\n\nnode,phase,kind,vn,p,q\n") (bytes "node,va_re,va_im,vb_re,vb_im,vc_re,vc_im\nS,103,208,-257,-277,74,6\nN0,103,208,-257,-277,74,6\nN3,12,81,-144,-194,132,113\nN4,96,193,-246,-265,0,0\nN2,0,0,0,0,74,6\nN1,0,0,-276,-297,0,0\n\nfrom,to,ia_re,ia_im,ib_re,ib_im,ic_re,ic_im,loss_p,loss_q\nS,N0,0,0,0,0,0,0,0,0\nN0,N3,0,0,0,0,0,0,0,0\nS,N4,0,0,0,0,1,0,0,0\nN0,N2,0,0,0,0,0,0,0,0\nN0,N1,0,0,0,0,0,0,0,0\n\nsweeps,source_p,source_q,drawn_p,drawn_q,lost_p,lost_q\n1,0,0,0,0,0,0\n") ≡ Err (CurrentDiffers 12)
unfolding opened
v1-00498 = refl

-- S-1, 00236-moved--tol-1
v1-00236 : checked (bytes "source,va_re,va_im,vb_re,vb_im,vc_re,vc_im,tol,sweeps\nZUQZ,240000,0,-124814,-216184,-135568,198745,20,100\n\nfrom,to,phases,kind,p1,p2,p3,p4,p5,p6,p7,p8,p9,p10,p11,p12\nZUQZ,MPD7,BC,R,0,4,8,0,0,0,0,0,0,0,0,0\nZUQZ,ZTG9,ABC,R,2,-11,14,0,0,0,0,0,0,0,0,0\nZUQZ,J,ABC,L,24653785,40831847,0,0,0,0,31541245,38603515,30707914,39251723,56467681,45586757\nZUQZ,1UL2SD07,ABC,R,1,-1,-5,0,0,0,0,0,0,0,0,0\nZUQZ,5E,ABC,R,13,2,16,0,0,0,0,0,0,0,0,0\nZUQZ,8MQ1QWMV,B,L,0,0,0,0,0,0,81551672,-54227872,0,0,0,0\nZUQZ,7V809WJP,ABC,R,0,14,12,0,0,0,0,0,0,0,0,0\nZUQZ,MLY,ABC,L,72415323,66465787,0,0,0,0,92019823,67526697,18313131,31982056,48918305,42137391\n\nnode,phase,kind,vn,p,q\nZTG9,A,P,208563,40,26\n8MQ1QWMV,B,P,240000,893,1074\n1UL2SD07,AB,I,431918,681,-987\nZTG9,B,I,266546,578,19\n5E,B,P,256570,2236,1972\n7V809WJP,B,P,271564,36171,22880\nZUQZ,CA,Z,431944,0,-9\nZTG9,CA,P,420067,8,1\nMPD7,B,P,249351,72694,3672\nJ,CA,P,415692,5,4\nJ,BC,Z,380513,3239,1508\n7V809WJP,CA,I,439497,47,28\n") (bytes "node,va_re,va_im,vb_re,vb_im,vc_re,vc_im\nZUQZ,240000,0,-124814,-216184,-135568,198745\nMPD7,0,0,-128014,-221727,-142703,209205\nZTG9,243038,0,-116785,-202277,-148568,217782\nJ,239993,-2,-124713,-216132,-136007,196082\n1UL2SD07,241509,0,-124039,-214841,-131460,192722\n5E,261224,0,-126394,-218921,-150631,220828\n8MQ1QWMV,0,0,-119740,-218299,0,0\n7V809WJP,240000,0,-136782,-236914,-146560,214859\nMLY,240000,0,-124814,-216184,-135568,198745\n\nfrom,to,ia_re,ia_im,ib_re,ib_im,ic_re,ic_im,loss_p,loss_q\nZUQZ,MPD7,0,0,-15439,-23872,0,0,0,0\nZUQZ,ZTG9,17,-12,-115,-184,-1,1,0,0\nZUQZ,J,1,-1,-404,-934,403,935,2756199,589407\nZUQZ,1UL2SD07,20,277,-20,-277,0,0,0,0\nZUQZ,5E,0,0,-1118,-376,0,0,0,0\nZUQZ,8MQ1QWMV,0,0,-551,-107,0,0,2569469,-1708283\nZUQZ,7V809WJP,6,-11,-13854,-7269,-6,11,0,0\nZUQZ,MLY,0,0,0,0,0,0,0,0\n\nsweeps,source_p,source_q,drawn_p,drawn_q,lost_p,lost_q\n19,11712300954,3045806625,11707185532,3046868020,5325668,-1118876\n") ≡ Err (VoltageOff 4)
unfolding opened
v1-00236 = refl

-- S-1, 00370-moved--tol-1
v1-00370 : checked (bytes "source,va_re,va_im,vb_re,vb_im,vc_re,vc_im,tol,sweeps\n783D,1903,0,-951,-1648,-1060,1581,1,50\n\nfrom,to,phases,kind,p1,p2,p3,p4,p5,p6,p7,p8,p9,p10,p11,p12\n783D,0EHXJPQF,AB,L,14750954,17995712,2827559,5964553,0,0,18530397,6397361,0,0,0,0\n0EHXJPQF,G,B,L,0,0,0,0,0,0,0,-1,0,0,0,0\n\nnode,phase,kind,vn,p,q\nG,B,Z,1903,0,0\n783D,C,P,1903,0,0\n") (bytes "node,va_re,va_im,vb_re,vb_im,vc_re,vc_im\n783D,1903,0,-951,-1648,-1060,1581\n0EHXJPQF,1901,0,-951,-1648,0,0\nG,0,0,-951,-1648,0,0\n\nfrom,to,ia_re,ia_im,ib_re,ib_im,ic_re,ic_im,loss_p,loss_q\n783D,0EHXJPQF,0,0,0,0,0,0,0,0\n0EHXJPQF,G,0,0,0,0,0,0,0,0\n\nsweeps,source_p,source_q,drawn_p,drawn_q,lost_p,lost_q\n46,0,0,0,0,0,0\n") ≡ Err (VoltageOff 3)
unfolding opened
v1-00370 = refl

-- S-1, 00497-moved--tol-1
v1-00497 : checked (bytes "source,va_re,va_im,vb_re,vb_im,vc_re,vc_im,tol,sweeps\nS,103,208,-257,-277,74,6,0,20\n\nfrom,to,phases,kind,p1,p2,p3,p4,p5,p6,p7,p8,p9,p10,p11,p12\nS,N0,ABC,Y,5,5,-5000000,-4079422,5000000,5150981,2306961,15000000,0,0,0,0\nN0,N3,ABC,D,5,2,-15000000,559177,5000000,9785380,5000000,4656983,0,0,0,0\nS,N4,AB,R,-12,-7,0,0,0,0,0,0,0,0,0,0\nN0,N2,C,L,0,0,0,0,0,0,0,0,0,0,4999990,5000000\nN0,N1,B,R,0,11,0,0,0,0,0,0,0,0,0,0\n\nnode,phase,kind,vn,p,q\n") (bytes "node,va_re,va_im,vb_re,vb_im,vc_re,vc_im\nS,103,208,-257,-277,74,6\nN0,103,208,-257,-277,74,6\nN3,12,81,-144,-194,132,113\nN4,96,193,-246,-265,0,0\nN2,0,0,0,0,73,6\nN1,0,0,-276,-297,0,0\n\nfrom,to,ia_re,ia_im,ib_re,ib_im,ic_re,ic_im,loss_p,loss_q\nS,N0,0,0,0,0,0,0,0,0\nN0,N3,0,0,0,0,0,0,0,0\nS,N4,0,0,0,0,0,0,0,0\nN0,N2,0,0,0,0,0,0,0,0\nN0,N1,0,0,0,0,0,0,0,0\n\nsweeps,source_p,source_q,drawn_p,drawn_q,lost_p,lost_q\n6,0,0,0,0,0,0\n") ≡ Err (VoltageOff 6)
unfolding opened
v1-00497 = refl

-- S-1, 00257-edit
v1-00257 : checked (bytes "source,va_re,va_im,vb_re,vb_im,vc_re,vc_im,tol,sweeps\nS,1800000,0,-900000,-1558800,-900000,1558800,30,100\n\nfrom,to,phases,kind,p1,p2,p3,p4,p5,p6,p7,p8,p9,p10,p11,p12\nS,N0,ABC,L,-32241421,100000000,-8060356,25000000,0,0,-32241421,100000000,0,0,-32241421,100000000\n\nnode,phase,kind,vn,p,q\nN0,BC,P,3117691,706743,89959\nN0,B,P,1800000,693919,-161417\nN0,B,Z,1800000,0,-289402\nN0,C,Z,1800000,595991,390350\nN0,C,Z,1800000,0,-685113\n") (bytes "node,va_re,va_im,vb_re,vb_im,vc_re,vc_im\nS,1800000,0,-900000,-1558800,-900000,1558800\nN0,1646514,-26935,-1513944,-1666542,-477599,1898269\n\nfrom,to,ia_re,ia_im,ib_re,ib_im,ic_re,ic_im,loss_p,loss_q\nS,N0,0,0,-8172,-58760,-18414,48177,-2000001,61796201891\n\nsweeps,source_p,source_q,drawn_p,drawn_q,lost_p,lost_q\n9,190620795600,-25489929600,210545313127,-87285814731,-19923962615,61796201891\n") ≡ Err TotalDiffers
unfolding opened
v1-00257 = refl

-- S-3, 00247-edit
v3-00247 : checked (bytes "source,va_re,va_im,vb_re,vb_im,vc_re,vc_im,tol,sweeps\nS,-34,-32,-8,-3,-25,29,7,5\n\nfrom,to,phases,kind,p1,p2,p3,p4,p5,p6,p7,p8,p9,p10,p11,p12\nS,N0,B,L,0,0,0,0,0,0,4999990,5000000,0,0,0,0\nN0,N1,B,L,0,0,0,0,0,0,5000000,-5000000,0,0,0,0\n\nnode,phase,kind,vn,p,q\n") (bytes "node,va_re,va_im,vb_re,vb_im,vc_re,vc_im\nS,-34,-32,-8,-3,-24,29\nN0,0,0,-8,-3,0,-2000000\nN1,0,0,-8,-3,2000001,0\n\nfrom,to,ia_re,ia_im,ib_re,ib_im,ic_re,ic_im,loss_p,loss_q\nS,N0,0,0,0,0,0,1,0,0\nN0,N1,0,0,0,0,0,0,0,0\n\nsweeps,source_p,source_q,drawn_p,drawn_q,lost_p,lost_q\n1,0,0,0,0,0,2000001\n") ≡ Err ReportLayout
unfolding opened
v3-00247 = refl

-- S-3, 00332-edit
v3-00332 : checked (bytes "source,va_re,va_im,vb_re,vb_im,vc_re,vc_im,tol,sweeps\nLN1H,316999,617653,390365,-604992,-719121,-35570,0,20\n\nfrom,to,phases,kind,p1,p2,p3,p4,p5,p6,p7,p8,p9,p10,p11,p12\nLN1H,347,ABC,L,59894961,55709137,0,0,0,0,55805087,91298823,30144913,25592050,28241684,-27068794\n\nnode,phase,kind,vn,p,q\n") (bytes "node,va_re,va_im,vb_re,vb_im,vc_re,vc_im\nLN1H,316999,617653,390365,-604992,-719121,-35570\n347,316999,617653,390365,-604992,99999999999280879,-35570\n\nfrom,to,ia_re,ia_im,ib_re,ib_im,ic_re,ic_im,loss_p,loss_q\nLN1H,347,0,0,0,0,0,0,0,0\n\nsweeps,source_p,source_q,drawn_p,drawn_q,lost_p,lost_q\n1,0,0,0,0,0,0\n") ≡ Err ReportLayout
unfolding opened
v3-00332 = refl

-- S-3, 00416-edit
v3-00416 : checked (bytes "source,va_re,va_im,vb_re,vb_im,vc_re,vc_im,tol,sweeps\nZ,1733866,-2000000,-2000000,0,1261642,-473616,1000,2\n\nfrom,to,phases,kind,p1,p2,p3,p4,p5,p6,p7,p8,p9,p10,p11,p12\nZ,Q1UP,ABC,Y,52,1,547888,537576,1244281,1157288,995631,961892,0,0,0,0\n\nnode,phase,kind,vn,p,q\nQ1UP,AB,P,4000000,-1,-26781\n") (bytes "node,va_re,va_im,vb_re,vb_im,vc_re,vc_im\nZ,1733866,-2000000,-2000000,0,1261642,-473616\nQ1UP,33344,-38462,-38462,0,24262,-9108\n\nfrom,to,ia_re,ia_im,ib_re,ib_im,ic_re,ic_im,loss_p,loss_q\nZ,Q1UP,6,12,-6,-12,0,0,30,30\n\nsweeps,source_p,source_q,drawn_p,drawn_q,lost_p,lost_q\n-1,0,0,-30708,-1092444,30,30\n") ≡ Err ReportLayout
unfolding opened
v3-00416 = refl

-- S-3, 00509-edit
v3-00509 : checked (bytes "source,va_re,va_im,vb_re,vb_im,vc_re,vc_im,tol,sweeps\nS,1,-6,-4,9,-2,-6,0,5\n\nfrom,to,phases,kind,p1,p2,p3,p4,p5,p6,p7,p8,p9,p10,p11,p12\nN1,N4,B,L,0,0,0,0,0,0,15000000,5000000,0,0,0,0\nN1,N2,AB,L,5000000,8511200,4999990,-5000000,0,0,5000000,4999990,0,0,0,0\nS,N0,BC,R,0,5,16,0,0,0,0,0,0,0,0,0\nS,N1,ABC,Y,1,9,-4999990,5000000,-5000000,5000000,4999990,-5000000,0,0,0,0\nN2,N3,B,L,0,0,0,0,0,0,5000000,15000000,0,0,0,0\n\nnode,phase,kind,vn,p,q\nN0,B,P,1114,-2,-3\n") (bytes "node,va_re,va_im,vb_re,vb_im,vc_re,vc_im\nS,1,-6,-4,9,-2,-6\nN4,0,0,-36,81,0,0\nN2,9,-54,-36,81,0,0\nN0,0,0,-4,9,-2,-7\nN1,9,-54,-36,81,-18,2000001\nN3,0,2000001,-36,81,0,0\n\nfrom,to,ia_re,ia_im,ib_re,ib_im,ic_re,ic_im,loss_p,loss_q\nN1,N4,0,0,0,0,0,0,0,0\nN,N2,0,0,0,0,0,-1,0,0\nS,N0,0,0,-2,-2,0,0,0,0\nS,N1,0,0,0,0,0,0,0,0\nN2,N3,0,0,0,0,0,0,0,0\n\nsweeps,source_p,source_q,drawn_p,drawn_q,lost_p,lost_q\n1,-10,-26,-10,-25,0,0\n") ≡ Err ReportLayout
unfolding opened
v3-00509 = refl

-- S-3, 00458-edit
v3-00458 : checked (bytes "source,va_re,va_im,vb_re,vb_im,vc_re,vc_im,tol,sweeps\nS,1800000,0,-900000,-1558800,-900000,1558800,0,100\n\nfrom,to,phases,kind,p1,p2,p3,p4,p5,p6,p7,p8,p9,p10,p11,p12\nN0,N1,A,L,-100000000,100000000,0,0,0,0,0,0,0,0,0,0\nS,N0,A,R,2,0,0,0,0,0,0,0,0,0,0,0\n\nnode,phase,kind,vn,p,q\nN1,A,Z,1800000,274529,12005\n") (bytes "node,va_re,va_im,vb_re,vb_im,vc_re,vc_im\nS,1800000,0,-900000,-1558800,-900000,1558800\nN1,1965295,-189130,0,0,0,0\nN,1822785,0,0,0,0,0\n\nfrom,to,ia_re,ia_im,ib_re,ib_im,ic_re,ic_im,loss_p,loss_q\nN0,N1,16582,-2331,0,0,0,0,-2803962850,2803962850\nS,N0,16581,-2331,0,0,0,0,0,0\n\nsweeps,source_p,source_q,drawn_p,drawn_q,lost_p,lost_q\n6,30225600000,4249800000,33029383720,1444948985,-2803962850,2803962850\n") ≡ Err (NameDiffers 4)
unfolding opened
v3-00458 = refl

-- S-3, 00019-node-under-edit1
v3-00019 : checked (bytes "source,va_re,va_im,vb_re,vb_im,vc_re,vc_im,tol,sweeps\nS,699999,0,-350000,-606218,0,0,1,20\n\nfrom,to,phases,kind,p1,p2,p3,p4,p5,p6,p7,p8,p9,p10,p11,p12\nS,N1,AB,L,1000,1000,0,0,0,0,1000,1000,0,0,0,0\n\nnode,phase,kind,vn,p,q\nN1,A,P,1000000,70000,9000\n") (bytes "node,va_re,va_im,vb_re,vb_im,vc_re,vc_im\nS,699999,0,-350000,-606218,0,0\nN1,699999,0,-350000,-606218,0,0\n\nfrom,to,ia_re,ia_im,ib_re,ib_im,ic_re,ic_im,loss_p,loss_q\nS,N1,4899,-630,0,0,0,0,4900,630\n\nsweeps,source_p,source_q,drawn_p,drawn_q,lost_p,lost_q\n1,3429995100,440999370,3429995100,440999370,4900,630\n") ≡ Err (CurrentDiffers 6)
unfolding opened
v3-00019 = refl

-- S-3, 00273-moved-tol+1
v3-00273 : checked (bytes "source,va_re,va_im,vb_re,vb_im,vc_re,vc_im,tol,sweeps\n2BA,719942,9148,-361442,-626036,-360000,623538,2,5\n\nfrom,to,phases,kind,p1,p2,p3,p4,p5,p6,p7,p8,p9,p10,p11,p12\n2BA,SY,ABC,Y,240,240,195160,200316,115426,224971,202103,163905,0,0,0,0\nSY,0,ABC,Y,1,1,95597920,80102417,47437367,31685685,40246397,78223393,0,0,0,0\nSY,Z2,ABC,R,3,-12,-15,0,0,0,0,0,0,0,0,0\n2BA,827,ABC,L,41270047,81818744,30222548,36538532,29253440,12080754,43047093,73778700,0,0,56490453,-26024896\n2BA,937,ABC,Y,2400,2400,3128096,3832430,1799841,5406897,2515782,2064265,0,0,0,0\n\nnode,phase,kind,vn,p,q\nSY,B,I,720000,76,37\n2BA,A,I,849026,-61776,20875\nZ2,BC,P,1187691,777,78\nSY,A,Z,720000,52318,43439\n937,C,I,632557,249,186\n937,B,I,720000,6088,-24986\n937,B,Z,720000,0,-6682\nZ2,CA,P,1176698,-26021,43736\n") (bytes "node,va_re,va_im,vb_re,vb_im,vc_re,vc_im\n2BA,719942,9148,-361442,-626036,-360000,623538\nSY,719707,9235,-361443,-626035,-360033,623442\n0,719707,9235,-361443,-626035,-360033,623442\nZ2,733459,9411,-336226,-582358,-329173,570004\n827,719942,9148,-361442,-626036,-360000,623538\n937,719945,9148,-363642,-627338,-359991,623524\n\nfrom,to,ia_re,ia_im,ib_re,ib_im,ic_re,ic_im,loss_p,loss_q\n2BA,SY,3658,-8189,-17,-69,3311,2081,1881164,1855438\nSY,0,0,0,0,0,0,0,0,0\nSY,Z2,-3614,-2209,-7,-67,3621,2276,0,0\n2BA,827,0,0,0,0,0,0,0,0\n2BA,937,0,0,3387,-2941,6,49,3622850,10880599\n\nsweeps,source_p,source_q,drawn_p,drawn_q,lost_p,lost_q\n5,-1879636772,7336766158,-1885074216,7323495428,5504014,12736037\n") ≡ Err (VoltageOff 7)
unfolding opened
v3-00273 = refl

-- S-3, 00393-moved-alltol+1
v3-00393 : checked (bytes "source,va_re,va_im,vb_re,vb_im,vc_re,vc_im,tol,sweeps\nS,166295,153600,188343,-150192,99801,-616,0,20\n\nfrom,to,phases,kind,p1,p2,p3,p4,p5,p6,p7,p8,p9,p10,p11,p12\nS,N0,BC,L,0,0,0,0,0,0,4727,1576,1576,-1576,4727,-4727\n\nnode,phase,kind,vn,p,q\nN0,C,Z,3081,0,-3\n") (bytes "node,va_re,va_im,vb_re,vb_im,vc_re,vc_im\nS,166295,153600,188343,-150192,99801,-616\nN0,0,0,188343,-150193,99799,-616\n\nfrom,to,ia_re,ia_im,ib_re,ib_im,ic_re,ic_im,loss_p,loss_q\nS,N0,0,0,0,0,19,3154,3173,-3135\n\nsweeps,source_p,source_q,drawn_p,drawn_q,lost_p,lost_q\n6,-46645,-314784058,-46683,-314777750,3173,-3135\n") ≡ Err (VoltageOff 3)
unfolding opened
v3-00393 = refl

-- S-3, 00507-moved-tol+1
v3-00507 : checked (bytes "source,va_re,va_im,vb_re,vb_im,vc_re,vc_im,tol,sweeps\nS,1,-6,-4,9,-2,-6,0,5\n\nfrom,to,phases,kind,p1,p2,p3,p4,p5,p6,p7,p8,p9,p10,p11,p12\nN1,N4,B,L,0,0,0,0,0,0,15000000,5000000,0,0,0,0\nN1,N2,AB,L,5000000,8511200,4999990,-5000000,0,0,5000000,4999990,0,0,0,0\nS,N0,BC,R,0,5,16,0,0,0,0,0,0,0,0,0\nS,N1,ABC,Y,1,9,-4999990,5000000,-5000000,5000000,4999990,-5000000,0,0,0,0\nN2,N3,B,L,0,0,0,0,0,0,5000000,15000000,0,0,0,0\n\nnode,phase,kind,vn,p,q\nN0,B,P,1114,-2,-3\n") (bytes "node,va_re,va_im,vb_re,vb_im,vc_re,vc_im\nS,1,-6,-4,9,-2,-6\nN4,0,0,-36,81,0,0\nN2,9,-54,-36,81,0,0\nN0,0,0,-4,9,-2,-7\nN1,9,-54,-36,81,-18,-54\nN3,0,0,-35,81,0,0\n\nfrom,to,ia_re,ia_im,ib_re,ib_im,ic_re,ic_im,loss_p,loss_q\nN1,N4,0,0,0,0,0,0,0,0\nN1,N2,0,0,0,0,0,0,0,0\nS,N0,0,0,-2,-2,0,0,0,0\nS,N1,0,0,0,0,0,0,0,0\nN2,N3,0,0,0,0,0,0,0,0\n\nsweeps,source_p,source_q,drawn_p,drawn_q,lost_p,lost_q\n5,-10,-26,-10,-26,0,0\n") ≡ Err (VoltageOff 7)
unfolding opened
v3-00507 = refl

-- S-3, 00324-repmangle
v3-00324 : checked (bytes "source,va_re,va_im,vb_re,vb_im,vc_re,vc_im,tol,sweeps\n2N1BYYYH,1191457,-20822,-572010,-1054896,-600000,1039230,1000,3\n\nfrom,to,phases,kind,p1,p2,p3,p4,p5,p6,p7,p8,p9,p10,p11,p12\n2N1BYYYH,ZTF,AB,L,1242928,-1748889,471335,732821,0,0,803968,-2095051,0,0,0,0\n\nnode,phase,kind,vn,p,q\nZTF,AB,Z,2078461,0,-10102\n2N1BYYYH,AB,Z,2078461,38543,-237490\nZTF,AB,I,2078461,231,143\n2N1BYYYH,C,Z,1200000,110,16\nZTF,A,Z,1200000,0,-1156\nZTF,B,P,1200000,20095,15355\n2N1BYYYH,AB,I,2078461,157,52\n2N1BYYYH,C,I,1200000,-1876,-2585\n2N1BYYYH,CA,P,2078461,273,161\nZTF,B,Z,1264049,0,-468\n2N1BYYYH,BC,Z,2078461,185665,-6074\n2N1BYYYH,BC,P,1846603,98,15\n2N1BYYYH,A,P,1200000,-15454,-14819\nZTF,A,P,1402918,1181,-151\n2N1BYYYH,C,Z,1200000,0,-11057\nZTF,A,Z,1200000,0,-539\n2N1BYYYH,A,I,1234076,1756,404\n2N1BYYYH,AB,I,2078461,2925,575\n2N1BYYYH,CA,P,2321109,20227,4905\n2N1BYYYH,A,Z,1200000,0,-6906\n2N1BYYYH,AB,I,1706501,227084,63379\nZTF,AB,P,2832803,-30,2\n2N1BYYYH,CA,P,2474345,536,-1\n2N1BYYYH,B,P,1200000,91927,16601\nZTF,A,I,1200000,198315,149341\n") (bytes "node,va_re,va_im,vb_re,vb_im,vc_re,vc_im\n2N1BYYYH,1191457,-20822,-572010,-1054896,-600000,1039230\nZTF,1191558,-16298,-573260,-1055752,0,0\n\nfrom,to,ia_re,ia_im,ib_re,ib_im,ic_re,ic_im,loss_p,loss_q\n2N1BYYYH,ZTF,16225,-12106,-1659,-1289,0,0,50235200,-74356415\n\nsweeps,source_p,source_q,drawn_p,drawn_q,lost_p,lost_q\n2,81731328577,-2153002751,81681376892,-2078569291,50235200,-74256415\n") ≡ Err TotalDiffers
unfolding opened
v3-00324 = refl

-- S-4, 00067-repmangle
v4-00067 : checked (bytes "source,va_re,va_im,vb_re,vb_im,vc_re,vc_im,tol,sweeps\nS,-2,-1,-1,0,0,2,7,20\n\nfrom,to,phases,kind,p1,p2,p3,p4,p5,p6,p7,p8,p9,p10,p11,p12\nS,N3,ABC,D,6,8,84746,84746,84746,84746,84746,-84746,0,0,0,0\nS,N0,B,R,0,10,0,0,0,0,0,0,0,0,0,0\nN2,N4,B,R,0,10,0,0,0,0,0,0,0,0,0,0\nN0,N2,B,R,0,-4,0,0,0,0,0,0,0,0,0,0\nN0,N1,B,L,0,0,0,0,0,0,4999990,5000000,0,0,0,0\n\nnode,phase,kind,vn,p,q\nN3,AB,I,15266,1,-2\nN3,AB,Z,144,2,-1\nS,BC,I,10399,0,0\n") (bytes "from,to,ia_re,ia_im,ib_re,ib_im,ic_re,ic_im,loss_p,loss_q\nS,N3,-7,-82,7,82,0,0,150,178\nS,N0,0,0,0,0,0,0,0,0\nN2,N4,0,0,0,0,0,0,0,0\nN0,N2,0,0,0,0,0,0,0,0\nN0,N1,0,0,0,0,0,0,0,0\n\nnode,va_re,va_im,vb_re,vb_im,vc_re,vc_im\nS,-2,-1,-1,0,0,2\nN3,-3,-4,1,1,1,3\nN0,0,0,-1,0,0,0\nN4,0,0,-1,0,0,0\nN2,0,0,-1,0,0,0\nN1,0,0,-1,0,0,0\n\nsweeps,source_p,source_q,drawn_p,drawn_q,lost_p,lost_q\n1,466,-292,438,-293,150,178\n") ≡ Err ReportLayout
unfolding opened
v4-00067 = refl

-- S-4, 00186-repmangle
v4-00186 : checked (bytes "source,va_re,va_im,vb_re,vb_im,vc_re,vc_im,tol,sweeps\nLLG,392670,0,-196029,-339533,-254520,298211,1,20\n\nfrom,to,phases,kind,p1,p2,p3,p4,p5,p6,p7,p8,p9,p10,p11,p12\nLLG,CNKF5NKB,ABC,L,21888149,66386273,10970426,-38186866,0,0,65453601,-57078589,32704704,37739435,40775008,93964818\nCNKF5NKB,CZ,ABC,L,77509610,66180767,11732597,-26385260,26898983,39222590,88042340,75285713,14973385,15455876,53542276,24905699\n\nnode,phase,kind,vn,p,q\nCNKF5NKB,C,I,411902,28,-7\nCZ,C,P,392059,31,-4\n") (bytes "node,va_re,va_im,vb_re,vb_im,vc_re,vc_im\nLLG,392670,0,-196029,-339533,-254520,298211\nCNKF5NKB,392670,0,-195956,-339517,-254387,298287\nCZ,392706,10,-195939,-339515,-254342,298275\n\nfrom,to,ia_re,ia_im,ib_re,ib_im,ic_re,ic_im,loss_p,loss_q \nLLG,CNKF5NKB,0,0,0,0,-12,9,912,2109\nCNKF5NKB,CZ,0,0,0,0,-6,5,330,153\n\nsweeps,source_p,source_q,drawn_p,drawn_q,lost_p,lost_q\n2,5738139,-1287852,5736897,-1290114,1242,2262\n") ≡ Err ReportLayout
unfolding opened
v4-00186 = refl

-- S-4, 00268-edit
v4-00268 : checked (bytes "source,va_re,va_im,vb_re,vb_im,vc_re,vc_im,tol,sweeps\nS,-2,18,-9,38,2,32,7,50\n\nfrom,to,phases,kind,p1,p2,p3,p4,p5,p6,p7,p8,p9,p10,p11,p12\nS,N0,ABC,Y,3,8,3752969,7196106,-4999990,5000000,-5000000,5000000,0,0,0,0\n\nnode,phase,kind,vn,p,q\n") (bytes "node,va_re,va_im,vb_re,vb_im,vc_re,vc_im\nS,-2,18,-9,38,2,32\nN0,-5,48,-24,101,100000000000000005,85\n\nfrom,to,ia_re,ia_im,ib_re,ib_im,ic_re,ic_im,loss_p,loss_q\nS,N0,0,0,0,0,0,0,0,0\n\nsweeps,source_p,source_q,drawn_p,drawn_q,lost_p,lost_q\n1,0,0,0,0,0,0\n") ≡ Err ReportLayout
unfolding opened
v4-00268 = refl

-- S-4, 00088-edit
v4-00088 : checked (bytes "source,va_re,va_im,vb_re,vb_im,vc_re,vc_im,tol,sweeps\nS,12,30,-4,-40,-1,-5,7,5\n\nfrom,to,phases,kind,p1,p2,p3,p4,p5,p6,p7,p8,p9,p10,p11,p12\nS,N0,B,R,0,-10,0,0,0,0,0,0,0,0,0,0\nS,N1,ABC,Y,4,6,59524,-178571,59524,-59524,59524,-178571,0,0,0,0\n\nnode,phase,kind,vn,p,q\nN1,C,I,9093,-3,1\nN0,B,Z,314,-3,-1\nN1,CA,Z,400,1,3\n") (bytes "node,va_re,va_im,vb_re,vb_im,vc_re,vc_im\nS,12,30,-4,-40,-1,-5\nN0,0,0,-4,-38,0,0\nZZ9,18,45,-6,-60,-2,-8\n\nfrom,to,ia_re,ia_im,ib_re,ib_im,ic_re,ic_im,loss_p,loss_q\nS,N0,0,0,51,112,2000000,0,0,0\nS,N1,112,-4,0,0,-115,40,200,-450\n\nsweeps,source_p,source_q,drawn_p,drawn_q,lost_p,lost_q\n1,-2683,4537,-2714,4622,200,-450\n") ≡ Err (NameDiffers 4)
unfolding opened
v4-00088 = refl

-- S-4, 00161-edit
v4-00161 : checked (bytes "source,va_re,va_im,vb_re,vb_im,vc_re,vc_im,tol,sweeps\nS,1000000,0,-500000,-866000,-500000,866000,3,50\n\nfrom,to,phases,kind,p1,p2,p3,p4,p5,p6,p7,p8,p9,p10,p11,p12\nS,N0,A,L,51268820,51227753,0,0,0,0,0,0,0,0,0,0\n\nnode,phase,kind,vn,p,q\nN0,A,P,1428571,372413,72665\nN0,A,Z,1000000,0,-47325\n") (bytes "node,va_re,va_im,vb_re,vb_im,vc_re,vc_im\nS,1000000,0,-500000,-866000,-500002,866000\nN0,911861,2000000,0,0,0,0\n\nfrom,to,ia_re,ia_im,ib_re,ib_im,ic_re,ic_im,loss_p,loss_q\nS,N0,16738,-454,10,0,0,-2,1437399264,1436248852\n\nsweeps,source_p,source_q,drawn_p,drawn_q,lost_p,lost_q\n8,16738000000,454000000,15300600736,-982248852,1437399264,1436248862\n") ≡ Err (SourceDiffers 2)
unfolding opened
v4-00161 = refl

-- S-4, 00037-54-0-N1N3N4
v4-00037 : checked (bytes "source,va_re,va_im,vb_re,vb_im,vc_re,vc_im,tol,sweeps\nS,720000,0,-360000,-623538,-360000,623538,1,30\n\nfrom,to,phases,kind,p1,p2,p3,p4,p5,p6,p7,p8,p9,p10,p11,p12\nS,N0,AB,L,100000,0,0,0,0,0,100000,0,0,0,0,0\nS,N1,AB,L,100000,0,0,0,0,0,100000,0,0,0,0,0\nN0,N2,AB,L,100000,0,0,0,0,0,100000,0,0,0,0,0\nN0,N3,AB,L,100000,0,0,0,0,0,100000,0,0,0,0,0\nN1,N4,AB,L,100000,0,0,0,0,0,100000,0,0,0,0,0\nN1,N5,AB,L,100000,0,0,0,0,0,100000,0,0,0,0,0\nN2,N6,AB,L,100000,0,0,0,0,0,100000,0,0,0,0,0\nN2,N7,AB,L,100000,0,0,0,0,0,100000,0,0,0,0,0\n\nnode,phase,kind,vn,p,q\nN0,A,P,720000,1000,0\nN1,B,P,720000,1001,0\nN2,A,P,720000,1002,0\nN3,B,P,720000,1003,0\nN4,A,P,720000,1004,0\nN5,B,P,720000,1005,0\nN6,A,P,720000,1006,0\nN7,B,P,720000,1007,0\n") (bytes "node,va_re,va_im,vb_re,vb_im,vc_re,vc_im\nS,720000,0,-360000,-623538,-360000,623538\nN0,719996,0,-359999,-623536,0,0\nN1,720004,0,-359999,-623536,0,0\nN2,719993,0,-359998,-623535,0,0\nN3,720001,0,-359998,-623535,0,0\nN4,720003,0,-359999,-623536,0,0\nN5,719999,0,-359998,-623535,0,0\nN6,719992,0,-359998,-623535,0,0\nN7,719993,0,-359997,-623534,0,0\n\nfrom,to,ia_re,ia_im,ib_re,ib_im,ic_re,ic_im,loss_p,loss_q\nS,N0,418,0,-140,-242,0,0,2296,38\nS,N1,139,0,-140,-241,0,0,761,39\nN0,N2,279,0,-70,-121,0,0,1028,-51\nN0,N3,0,0,-70,-121,0,0,191,-51\nN1,N4,139,0,0,0,0,0,139,0\nN1,N5,0,0,-70,-121,0,0,191,-51\nN2,N6,140,0,0,0,0,0,140,0\nN2,N7,0,0,-70,-121,0,0,191,-51\n\nsweeps,source_p,source_q,drawn_p,drawn_q,lost_p,lost_q\n1,803008854,710640,803004612,710767,4937,-127\n") ≡ Err (VoltageOff 4)
unfolding opened
v4-00037 = refl

-- S-4, 00086-moved--tol-1
v4-00086 : checked (bytes "source,va_re,va_im,vb_re,vb_im,vc_re,vc_im,tol,sweeps\nS,12,30,-4,-40,-1,-5,7,5\n\nfrom,to,phases,kind,p1,p2,p3,p4,p5,p6,p7,p8,p9,p10,p11,p12\nS,N0,B,R,0,-10,0,0,0,0,0,0,0,0,0,0\nS,N1,ABC,Y,4,6,59524,-178571,59524,-59524,59524,-178571,0,0,0,0\n\nnode,phase,kind,vn,p,q\nN1,C,I,9093,-3,1\nN0,B,Z,314,-3,-1\nN1,CA,Z,400,1,3\n") (bytes "node,va_re,va_im,vb_re,vb_im,vc_re,vc_im\nS,12,30,-4,-40,-1,-5\nN0,0,0,-4,-38,0,0\nN1,17,39,-6,-60,-2,-10\n\nfrom,to,ia_re,ia_im,ib_re,ib_im,ic_re,ic_im,loss_p,loss_q\nS,N0,0,0,51,112,0,0,0,0\nS,N1,104,-5,0,0,-108,40,194,-419\n\nsweeps,source_p,source_q,drawn_p,drawn_q,lost_p,lost_q\n1,-2898,4146,-3071,3811,194,-419\n") ≡ Err (VoltageOff 4)
unfolding opened
v4-00086 = refl

-- S-4, 00219-moved-few
v4-00219 : checked (bytes "source,va_re,va_im,vb_re,vb_im,vc_re,vc_im,tol,sweeps\nD,225137,1655,-111664,-212441,-116982,202618,2,10\n\nfrom,to,phases,kind,p1,p2,p3,p4,p5,p6,p7,p8,p9,p10,p11,p12\nD,2H,ABC,L,1624971,-4159519,739999,2452409,0,0,4479556,-2373069,0,0,4343332,4665865\n\nnode,phase,kind,vn,p,q\nD,A,I,240000,7,2\nD,A,P,321633,273,54\nD,CA,Z,2000001,0,-17\n2H,BC,Z,415692,0,-46\n2H,AB,P,415692,259,35\n2H,A,P,240000,13304,7382\n2H,B,Z,240000,0,-502\n2H,BC,P,1760672,6251,3643\n") (bytes "node,va_re,va_im,vb_re,vb_im,vc_re,vc_im\nD,225137,1655,-111664,-212441,-116982,202618\n2H,225399,4663,-112867,-213572,-116959,202567\n\nfrom,to,ia_re,ia_im,ib_re,ib_im,ic_re,ic_im,loss_p,loss_q\nD,2H,6027,-3124,90,-210,37,84,7692363,-18589354\n\nsweeps,source_p,source_q,drawn_p,drawn_q,lost_p,lost_q\n4,1413148678,690862806,1405456567,709452271,7692363,-18589354\n") ≡ Err (VoltageOff 3)
unfolding opened
v4-00219 = refl
