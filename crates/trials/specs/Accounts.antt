-- Power accounts of reports that pass: the difference, real and reactive, and the allowance. Assumes nothing.
use Rattle.std.specs.Prelude.{◌≡◌, refl, pos, negsuc, Ok}
use Rattle.text.specs.Text.{bytes}
use Rattle.trials.specs.Opened.{opened, account_of}

-- 00002-example-own
a00002 : account_of (bytes "source,va_re,va_im,vb_re,vb_im,vc_re,vc_im,tol,sweeps\nS,720000,0,-360000,-623538,-360000,623538,1,20\n\nfrom,to,phases,kind,p1,p2,p3,p4,p5,p6,p7,p8,p9,p10,p11,p12\nS,N1,A,L,1000000,0,0,0,0,0,0,0,0,0,0,0\n\nnode,phase,kind,vn,p,q\nN1,A,P,720000,72000,0\n") (bytes "node,va_re,va_im,vb_re,vb_im,vc_re,vc_im\nS,720000,0,-360000,-623538,-360000,623538\nN1,719000,0,0,0,0,0\n\nfrom,to,ia_re,ia_im,ib_re,ib_im,ic_re,ic_im,loss_p,loss_q\nS,N1,10014,0,0,0,0,0,10024014,0\n\nsweeps,source_p,source_q,drawn_p,drawn_q,lost_p,lost_q\n2,7210080000,0,7200066000,0,10024014,0\n") ≡ Ok (record { differs = record { re = pos 51980; im = pos 0 }; allowed = 749044 })
unfolding opened
a00002 = refl

-- 00126-32-J-reg-1800000-own
a00126 : account_of (bytes "source,va_re,va_im,vb_re,vb_im,vc_re,vc_im,tol,sweeps\nS,90000,0,90000,0,90000,0,1,20\n\nfrom,to,phases,kind,p1,p2,p3,p4,p5,p6,p7,p8,p9,p10,p11,p12\nS,N1,A,R,16,0,0,0,0,0,0,0,0,0,0,0\n\nnode,phase,kind,vn,p,q\nN1,A,P,100000,1800000,0\n") (bytes "node,va_re,va_im,vb_re,vb_im,vc_re,vc_im\nS,90000,0,90000,0,90000,0\nN1,100000,0,0,0,0,0\n\nfrom,to,ia_re,ia_im,ib_re,ib_im,ic_re,ic_im,loss_p,loss_q\nS,N1,1800000,0,0,0,0,0,0,0\n\nsweeps,source_p,source_q,drawn_p,drawn_q,lost_p,lost_q\n1,180000000000,0,180000000000,0,0,0\n") ≡ Ok (record { differs = record { re = pos 0; im = pos 0 }; allowed = 5590003 })
unfolding opened
a00126 = refl

-- 00272-tie-D-own
a00272 : account_of (bytes "source,va_re,va_im,vb_re,vb_im,vc_re,vc_im,tol,sweeps\nS,1,-1,4,-3,5,-5,0,20\n\nfrom,to,phases,kind,p1,p2,p3,p4,p5,p6,p7,p8,p9,p10,p11,p12\nS,N,ABC,D,2,1,0,0,0,0,0,0,0,0,0,0\n\nnode,phase,kind,vn,p,q\n") (bytes "node,va_re,va_im,vb_re,vb_im,vc_re,vc_im\nS,1,-1,4,-3,5,-5\nN,-2,2,2,-1,1,-1\n\nfrom,to,ia_re,ia_im,ib_re,ib_im,ic_re,ic_im,loss_p,loss_q\nS,N,0,0,0,0,0,0,0,0\n\nsweeps,source_p,source_q,drawn_p,drawn_q,lost_p,lost_q\n1,0,0,0,0,0,0\n") ≡ Ok (record { differs = record { re = pos 0; im = pos 0 }; allowed = 20 })
unfolding opened
a00272 = refl

-- 00936-hard-own
a00936 : account_of (bytes "source,va_re,va_im,vb_re,vb_im,vc_re,vc_im,tol,sweeps\nS,1800000,0,-900000,-1558800,-900000,1558800,30,10\n\nfrom,to,phases,kind,p1,p2,p3,p4,p5,p6,p7,p8,p9,p10,p11,p12\nN1,N2,ABC,L,12192840,36111999,3048210,9027999,0,0,12192840,36111999,0,0,12192840,36111999\nN0,N1,ABC,L,26479614,3177849,6619903,794462,0,0,26479614,3177849,0,0,26479614,3177849\nS,N0,ABC,L,23469980,813633,5867495,203408,0,0,23469980,813633,0,0,23469980,813633\n\nnode,phase,kind,vn,p,q\nN2,A,P,1800000,908716,-127767\nN2,B,P,1800000,917409,21191\nN2,C,Z,1800000,901433,171775\nN1,C,Z,1800000,0,-559077\n") (bytes "node,va_re,va_im,vb_re,vb_im,vc_re,vc_im\nS,1800000,0,-900000,-1558800,-900000,1558800\nN2,1423529,-157160,-942085,-1179902,-562656,1402910\nN1,1524924,27014,-803539,-1319199,-724399,1424465\nN0,1671784,18458,-849777,-1448660,-820624,1492197\n\nfrom,to,ia_re,ia_im,ib_re,ib_im,ic_re,ic_im,loss_p,loss_q\nN1,N2,64046,1905,-39009,-46607,-8216,42015,10167154771,30112439157\nN0,N1,64046,1905,-39009,-46607,-32796,29515,22382102682,2686105797\nS,N0,64046,1905,-39009,-46607,-32796,29515,19838157857,687745960\n\nsweeps,source_p,source_q,drawn_p,drawn_q,lost_p,lost_q\n9,298566273600,-9126975600,246179395079,-42612904502,52387415310,33486290914\n") ≡ Ok (record { differs = record { re = pos 393458; im = negsuc 671001 }; allowed = 22779347 })
unfolding opened
a00936 = refl

-- 01055-good-own
a01055 : account_of (bytes "source,va_re,va_im,vb_re,vb_im,vc_re,vc_im,tol,sweeps\nT5N7,238608,-25815,-141660,-193733,-96948,219548,1000,10\n\nfrom,to,phases,kind,p1,p2,p3,p4,p5,p6,p7,p8,p9,p10,p11,p12\n\nnode,phase,kind,vn,p,q\nT5N7,C,P,240000,64357,-8023\nT5N7,A,I,211381,7,-2\nT5N7,A,P,240000,76,62\n") (bytes "node,va_re,va_im,vb_re,vb_im,vc_re,vc_im\nT5N7,238608,-25815,-141660,-193733,-96948,219548\n\nfrom,to,ia_re,ia_im,ib_re,ib_im,ic_re,ic_im,loss_p,loss_q\n\nsweeps,source_p,source_q,drawn_p,drawn_q,lost_p,lost_q\n1,6444088636,-796412136,6444088636,-796412136,0,0\n") ≡ Ok (record { differs = record { re = negsuc 6139; im = negsuc 85056 }; allowed = 75109345 })
unfolding opened
a01055 = refl

-- 01124-hard-own
a01124 : account_of (bytes "source,va_re,va_im,vb_re,vb_im,vc_re,vc_im,tol,sweeps\nS,240000,0,-120000,-207840,-120000,207840,3,50\n\nfrom,to,phases,kind,p1,p2,p3,p4,p5,p6,p7,p8,p9,p10,p11,p12\nN1,N2,A,L,-487756,234851,0,0,0,0,0,0,0,0,0,0\nS,N0,A,R,0,0,0,0,0,0,0,0,0,0,0,0\nN0,N1,A,R,-1,0,0,0,0,0,0,0,0,0,0,0\n\nnode,phase,kind,vn,p,q\nN2,A,P,240000,524145,57817\n") (bytes "node,va_re,va_im,vb_re,vb_im,vc_re,vc_im\nS,240000,0,-120000,-207840,-120000,207840\nN2,248105,-6343,0,0,0,0\nN0,240000,0,0,0,0,0\nN1,238509,0,0,0,0,0\n\nfrom,to,ia_re,ia_im,ib_re,ib_im,ic_re,ic_im,loss_p,loss_q\nN1,N2,210526,-28686,0,0,0,0,-2201952268,1060124248\nS,N0,209218,-28508,0,0,0,0,0,0\nN0,N1,210526,-28686,0,0,0,0,0,0\n\nsweeps,source_p,source_q,drawn_p,drawn_q,lost_p,lost_q\n4,50212320000,6841920000,52414508528,5781773612,-2201952268,1060124248\n") ≡ Ok (record { differs = record { re = negsuc 250251; im = pos 6690 }; allowed = 2885884 })
unfolding opened
a01124 = refl

-- 01197-moved-rand
a01197 : account_of (bytes "source,va_re,va_im,vb_re,vb_im,vc_re,vc_im,tol,sweeps\nFC15,720000,771,-437679,-603937,-354990,614861,1,10\n\nfrom,to,phases,kind,p1,p2,p3,p4,p5,p6,p7,p8,p9,p10,p11,p12\nFC15,LXN,ABC,L,3237561,1699840,0,0,611455,1652882,4318510,2279904,1515406,1889852,3252844,2044070\n\nnode,phase,kind,vn,p,q\nFC15,C,P,843458,1897,1746\nLXN,C,Z,720000,0,-27265\nFC15,C,Z,720000,100445,24552\nFC15,B,P,856902,10,14\nLXN,B,I,641406,237,25\nLXN,B,P,720000,19941,-1524\nFC15,B,Z,720000,490,-141\nLXN,C,Z,603393,43661,-1002\nLXN,B,I,720000,2132,433\nLXN,B,Z,720000,0,-7834\nFC15,C,I,714344,61,-16\nLXN,B,Z,720000,0,-1338\nFC15,A,P,720000,39470,-2178\nLXN,B,I,766620,5,4\nLXN,B,I,720000,9,1\nFC15,C,Z,859270,768,187\nLXN,A,Z,613035,687,824\nLXN,B,P,720000,48726,35296\nFC15,A,Z,720000,0,-198\nFC15,C,Z,720000,-394,38\nLXN,A,Z,720000,746,383\nFC15,C,Z,720000,24,11\nLXN,C,P,720000,730,402\nFC15,A,Z,720000,12511,-2024\nFC15,A,Z,720000,0,-5800\n") (bytes "node,va_re,va_im,vb_re,vb_im,vc_re,vc_im\nFC15,720000,771,-437679,-603937,-354990,614861\nLXN,721274,1719,-433205,-598911,-351262,617044\n\nfrom,to,ia_re,ia_im,ib_re,ib_im,ic_re,ic_im,loss_p,loss_q\nFC15,LXN,236,-211,-8336,-5851,-7629,5573,82886685,52648246\n\nsweeps,source_p,source_q,drawn_p,drawn_q,lost_p,lost_q\n7,28717373412,1457012043,28634496605,1404354972,82886685,52648246\n") ≡ Ok (record { differs = record { re = pos 917266; im = negsuc 649407 }; allowed = 23542256 })
unfolding opened
a01197 = refl

-- S-1, 00002-P-AB-own
a1-00002 : account_of (bytes "source,va_re,va_im,vb_re,vb_im,vc_re,vc_im,tol,sweeps\nS,720000,0,-360000,-623538,-360000,623538,1,20\n\nfrom,to,phases,kind,p1,p2,p3,p4,p5,p6,p7,p8,p9,p10,p11,p12\nS,N1,ABC,L,300000,600000,100000,200000,90000,180000,300000,600000,80000,170000,300000,600000\n\nnode,phase,kind,vn,p,q\nN1,AB,P,1247077,90000,30000\n") (bytes "node,va_re,va_im,vb_re,vb_im,vc_re,vc_im\nS,720000,0,-360000,-623538,-360000,623538\nN1,719912,-329,-359912,-623209,-360006,623529\n\nfrom,to,ia_re,ia_im,ib_re,ib_im,ic_re,ic_im,loss_p,loss_q\nS,N1,7456,1523,-7456,-1523,0,0,2314390,4638000\n\nsweeps,source_p,source_q,drawn_p,drawn_q,lost_p,lost_q\n2,9002128374,3004259328,8999813984,2999621328,2314390,4638000\n") ≡ Ok (record { differs = record { re = negsuc 188084; im = negsuc 373588 }; allowed = 1756580 })
unfolding opened
a1-00002 = refl

-- S-1, 00080-vn-delta-4000000-own
a1-00080 : account_of (bytes "source,va_re,va_im,vb_re,vb_im,vc_re,vc_im,tol,sweeps\nS,720000,0,-360000,-623538,-360000,623538,1,20\n\nfrom,to,phases,kind,p1,p2,p3,p4,p5,p6,p7,p8,p9,p10,p11,p12\nS,N1,ABC,L,0,0,0,0,0,0,0,0,0,0,0,0\n\nnode,phase,kind,vn,p,q\nN1,AB,Z,4000000,1,0\n") (bytes "node,va_re,va_im,vb_re,vb_im,vc_re,vc_im\nS,720000,0,-360000,-623538,-360000,623538\nN1,720000,0,-360000,-623538,-360000,623538\n\nfrom,to,ia_re,ia_im,ib_re,ib_im,ic_re,ic_im,loss_p,loss_q\nS,N1,0,0,0,0,0,0,0,0\n\nsweeps,source_p,source_q,drawn_p,drawn_q,lost_p,lost_q\n1,0,0,0,0,0,0\n") ≡ Ok (record { differs = record { re = negsuc 9719; im = pos 0 }; allowed = 1703540 })
unfolding opened
a1-00080 = refl

-- S-1, 00157-31-CA-2000000-own
a1-00157 : account_of (bytes "source,va_re,va_im,vb_re,vb_im,vc_re,vc_im,tol,sweeps\nS,50000,0,0,0,-50000,0,1,20\n\nfrom,to,phases,kind,p1,p2,p3,p4,p5,p6,p7,p8,p9,p10,p11,p12\n\nnode,phase,kind,vn,p,q\nS,CA,P,100000,2000000,0\n") (bytes "node,va_re,va_im,vb_re,vb_im,vc_re,vc_im\nS,50000,0,0,0,-50000,0\n\nfrom,to,ia_re,ia_im,ib_re,ib_im,ic_re,ic_im,loss_p,loss_q\n\nsweeps,source_p,source_q,drawn_p,drawn_q,lost_p,lost_q\n1,200000000000,0,200000000000,0,0,0\n") ≡ Ok (record { differs = record { re = pos 0; im = pos 0 }; allowed = 8100001 })
unfolding opened
a1-00157 = refl

-- S-1, 00231-rand-own
a1-00231 : account_of (bytes "source,va_re,va_im,vb_re,vb_im,vc_re,vc_im,tol,sweeps\nZUQZ,240000,0,-124814,-216184,-135568,198745,20,100\n\nfrom,to,phases,kind,p1,p2,p3,p4,p5,p6,p7,p8,p9,p10,p11,p12\nZUQZ,MPD7,BC,R,0,4,8,0,0,0,0,0,0,0,0,0\nZUQZ,ZTG9,ABC,R,2,-11,14,0,0,0,0,0,0,0,0,0\nZUQZ,J,ABC,L,24653785,40831847,0,0,0,0,31541245,38603515,30707914,39251723,56467681,45586757\nZUQZ,1UL2SD07,ABC,R,1,-1,-5,0,0,0,0,0,0,0,0,0\nZUQZ,5E,ABC,R,13,2,16,0,0,0,0,0,0,0,0,0\nZUQZ,8MQ1QWMV,B,L,0,0,0,0,0,0,81551672,-54227872,0,0,0,0\nZUQZ,7V809WJP,ABC,R,0,14,12,0,0,0,0,0,0,0,0,0\nZUQZ,MLY,ABC,L,72415323,66465787,0,0,0,0,92019823,67526697,18313131,31982056,48918305,42137391\n\nnode,phase,kind,vn,p,q\nZTG9,A,P,208563,40,26\n8MQ1QWMV,B,P,240000,893,1074\n1UL2SD07,AB,I,431918,681,-987\nZTG9,B,I,266546,578,19\n5E,B,P,256570,2236,1972\n7V809WJP,B,P,271564,36171,22880\nZUQZ,CA,Z,431944,0,-9\nZTG9,CA,P,420067,8,1\nMPD7,B,P,249351,72694,3672\nJ,CA,P,415692,5,4\nJ,BC,Z,380513,3239,1508\n7V809WJP,CA,I,439497,47,28\n") (bytes "node,va_re,va_im,vb_re,vb_im,vc_re,vc_im\nZUQZ,240000,0,-124814,-216184,-135568,198745\nMPD7,0,0,-128014,-221727,-142703,209205\nZTG9,243038,0,-116785,-202277,-148568,217803\nJ,239993,-2,-124713,-216132,-136007,196082\n1UL2SD07,241509,0,-124039,-214841,-131460,192722\n5E,261224,0,-126394,-218921,-150631,220828\n8MQ1QWMV,0,0,-119748,-218294,0,0\n7V809WJP,240000,0,-136782,-236914,-146560,214859\nMLY,240000,0,-124814,-216184,-135568,198745\n\nfrom,to,ia_re,ia_im,ib_re,ib_im,ic_re,ic_im,loss_p,loss_q\nZUQZ,MPD7,0,0,-15439,-23872,0,0,0,0\nZUQZ,ZTG9,17,-12,-115,-184,-1,1,0,0\nZUQZ,J,1,-1,-404,-934,403,935,2756199,589407\nZUQZ,1UL2SD07,20,277,-20,-277,0,0,0,0\nZUQZ,5E,0,0,-1118,-376,0,0,0,0\nZUQZ,8MQ1QWMV,0,0,-551,-107,0,0,2569469,-1708283\nZUQZ,7V809WJP,6,-11,-13854,-7269,-6,11,0,0\nZUQZ,MLY,0,0,0,0,0,0,0,0\n\nsweeps,source_p,source_q,drawn_p,drawn_q,lost_p,lost_q\n3,11712300954,3045806625,11707189426,3046864388,5325668,-1118876\n") ≡ Ok (record { differs = record { re = negsuc 358909; im = pos 199943 }; allowed = 12382568 })
unfolding opened
a1-00231 = refl

-- S-1, 00307-rand-own
a1-00307 : account_of (bytes "source,va_re,va_im,vb_re,vb_im,vc_re,vc_im,tol,sweeps\nS,146812,-99074,-39682,83259,125740,-35673,2,5\n\nfrom,to,phases,kind,p1,p2,p3,p4,p5,p6,p7,p8,p9,p10,p11,p12\nS,N0,ABC,Y,3,9,2430656,4999990,5000000,-5000000,-4999990,-4999990,0,0,0,0\nN0,N1,ABC,D,8,9,-9318124,-8768649,4999990,5000000,-5000000,5000000,0,0,0,0\n\nnode,phase,kind,vn,p,q\nN0,C,Z,1270636,-2,2\n") (bytes "node,va_re,va_im,vb_re,vb_im,vc_re,vc_im\nS,146812,-99074,-39682,83259,125740,-35673\nN0,440436,-297222,-119046,249777,377220,-107019\nN1,71118,-213978,-629417,615374,558299,-401396\n\nfrom,to,ia_re,ia_im,ib_re,ib_im,ic_re,ic_im,loss_p,loss_q\nS,N0,0,0,0,0,0,0,0,0\nN0,N1,0,0,0,0,0,0,0,0\n\nsweeps,source_p,source_q,drawn_p,drawn_q,lost_p,lost_q\n1,0,0,0,0,0,0\n") ≡ Ok (record { differs = record { re = pos 19046; im = negsuc 19045 }; allowed = 2605226 })
unfolding opened
a1-00307 = refl

-- S-1, 00391-rand-own
a1-00391 : account_of (bytes "source,va_re,va_im,vb_re,vb_im,vc_re,vc_im,tol,sweeps\nXJT,16499,0,-8249,-14289,-8627,14943,1,5\n\nfrom,to,phases,kind,p1,p2,p3,p4,p5,p6,p7,p8,p9,p10,p11,p12\nXJT,9RK,ABC,L,599043,-171785,131866,242501,132837,220633,242054,456761,221829,113938,366350,-415078\n9RK,A,ABC,D,572,240,981247,2538469,1888737,2654779,3041786,1285060,0,0,0,0\nA,5A,ABC,L,0,1,0,0,0,0,0,1,0,0,1,1\n\nnode,phase,kind,vn,p,q\n9RK,AB,P,33669,3,-1\nXJT,C,I,14544,79,2387\n5A,A,Z,11990,0,0\n5A,AB,Z,21121,0,-1\n9RK,B,P,19455,0,0\n9RK,AB,Z,28577,0,-2\nA,CA,I,20767,77,85\n9RK,B,P,16499,811,679\n") (bytes "node,va_re,va_im,vb_re,vb_im,vc_re,vc_im\nXJT,16499,0,-8249,-14289,-8627,14943\n9RK,16538,185,-8211,-13953,-8543,15062\nA,10407,-6148,-10385,-5931,-123,11992\n5A,10407,-6148,-10385,-5931,-123,11992\n\nfrom,to,ia_re,ia_im,ib_re,ib_im,ic_re,ic_im,loss_p,loss_q\nXJT,9RK,-66,-203,-6229,-2427,141,439,1028218,2025108\n9RK,A,-168,-521,0,-5,168,526,122535,115225\nA,5A,0,5,0,-5,0,0,0,0\n\nsweeps,source_p,source_q,drawn_p,drawn_q,lost_p,lost_q\n3,99699837,361421156,98546995,359282816,1150753,2140333\n") ≡ Ok (record { differs = record { re = pos 530; im = negsuc 4692 }; allowed = 351526 })
unfolding opened
a1-00391 = refl

-- S-3, 00002-source-at-own
a3-00002 : account_of (bytes "source,va_re,va_im,vb_re,vb_im,vc_re,vc_im,tol,sweeps\nS,700000,0,-350000,-606218,0,0,1,20\n\nfrom,to,phases,kind,p1,p2,p3,p4,p5,p6,p7,p8,p9,p10,p11,p12\nS,N1,AB,L,1000,1000,0,0,0,0,1000,1000,0,0,0,0\n\nnode,phase,kind,vn,p,q\nS,A,P,1000000,70000,9000\n") (bytes "node,va_re,va_im,vb_re,vb_im,vc_re,vc_im\nS,700000,0,-350000,-606218,0,0\nN1,700000,0,-350000,-606218,0,0\n\nfrom,to,ia_re,ia_im,ib_re,ib_im,ic_re,ic_im,loss_p,loss_q\nS,N1,0,0,0,0,0,0,0,0\n\nsweeps,source_p,source_q,drawn_p,drawn_q,lost_p,lost_q\n1,7000000000,900200000,7000000000,900200000,0,0\n") ≡ Ok (record { differs = record { re = pos 0; im = pos 200000 }; allowed = 722574 })
unfolding opened
a3-00002 = refl

-- S-3, 00057-source-at-neg-own
a3-00057 : account_of (bytes "source,va_re,va_im,vb_re,vb_im,vc_re,vc_im,tol,sweeps\nS,-560000,420000,-350000,-606218,0,0,1,20\n\nfrom,to,phases,kind,p1,p2,p3,p4,p5,p6,p7,p8,p9,p10,p11,p12\nS,N1,AB,L,1000,1000,0,0,0,0,1000,1000,0,0,0,0\n\nnode,phase,kind,vn,p,q\nS,A,P,1000000,70000,9000\n") (bytes "node,va_re,va_im,vb_re,vb_im,vc_re,vc_im\nS,-560000,420000,-350000,-606218,0,0\nN1,-560000,420000,-350000,-606218,0,0\n\nfrom,to,ia_re,ia_im,ib_re,ib_im,ic_re,ic_im,loss_p,loss_q\nS,N1,0,0,0,0,0,0,0,0\n\nsweeps,source_p,source_q,drawn_p,drawn_q,lost_p,lost_q\n1,7000420000,900060000,7000420000,900060000,0,0\n") ≡ Ok (record { differs = record { re = pos 420000; im = pos 60000 }; allowed = 1008518 })
unfolding opened
a3-00057 = refl

-- S-3, 00110-vn2000000-1400000-own
a3-00110 : account_of (bytes "source,va_re,va_im,vb_re,vb_im,vc_re,vc_im,tol,sweeps\nS,1400000,0,0,0,0,0,1,20\n\nfrom,to,phases,kind,p1,p2,p3,p4,p5,p6,p7,p8,p9,p10,p11,p12\n\nnode,phase,kind,vn,p,q\nS,A,P,2000000,3,-2\n") (bytes "node,va_re,va_im,vb_re,vb_im,vc_re,vc_im\nS,1400000,0,0,0,0,0\n\nfrom,to,ia_re,ia_im,ib_re,ib_im,ic_re,ic_im,loss_p,loss_q\n\nsweeps,source_p,source_q,drawn_p,drawn_q,lost_p,lost_q\n1,0,0,0,0,0,0\n") ≡ Ok (record { differs = record { re = negsuc 299999; im = pos 200000 }; allowed = 1400001 })
unfolding opened
a3-00110 = refl

-- S-3, 00155-sweeps-960000-1000-own
a3-00155 : account_of (bytes "source,va_re,va_im,vb_re,vb_im,vc_re,vc_im,tol,sweeps\nS,720000,0,-360000,-623538,-360000,623538,1000,40\n\nfrom,to,phases,kind,p1,p2,p3,p4,p5,p6,p7,p8,p9,p10,p11,p12\nS,N1,A,L,3000000,2000000,0,0,0,0,0,0,0,0,0,0\n\nnode,phase,kind,vn,p,q\nN1,A,P,960000,100000,20000\n") (bytes "node,va_re,va_im,vb_re,vb_im,vc_re,vc_im\nS,720000,0,-360000,-623538,-360000,623538\nN1,715278,-1944,0,0,0,0\n\nfrom,to,ia_re,ia_im,ib_re,ib_im,ic_re,ic_im,loss_p,loss_q\nS,N1,13973,-2834,0,0,0,0,60988211,40650518\n\nsweeps,source_p,source_q,drawn_p,drawn_q,lost_p,lost_q\n2,10060560000,2040480000,10000088790,1999934340,60988211,40650518\n") ≡ Ok (record { differs = record { re = negsuc 422885; im = negsuc 175256 }; allowed = 34348031 })
unfolding opened
a3-00155 = refl

-- S-3, 00200-sweeps-1010000-1000-own
a3-00200 : account_of (bytes "source,va_re,va_im,vb_re,vb_im,vc_re,vc_im,tol,sweeps\nS,720000,0,-360000,-623538,-360000,623538,1000,40\n\nfrom,to,phases,kind,p1,p2,p3,p4,p5,p6,p7,p8,p9,p10,p11,p12\nS,N1,A,L,3000000,2000000,0,0,0,0,0,0,0,0,0,0\n\nnode,phase,kind,vn,p,q\nN1,A,P,1010000,100000,20000\n") (bytes "node,va_re,va_im,vb_re,vb_im,vc_re,vc_im\nS,720000,0,-360000,-623538,-360000,623538\nN1,715278,-1944,0,0,0,0\n\nfrom,to,ia_re,ia_im,ib_re,ib_im,ic_re,ic_im,loss_p,loss_q\nS,N1,13973,-2834,0,0,0,0,60988211,40650518\n\nsweeps,source_p,source_q,drawn_p,drawn_q,lost_p,lost_q\n2,10060560000,2040480000,10000088790,1999934340,60988211,40650518\n") ≡ Ok (record { differs = record { re = negsuc 422885; im = negsuc 175256 }; allowed = 34348031 })
unfolding opened
a3-00200 = refl

-- S-3, 00261-rand-own
a3-00261 : account_of (bytes "source,va_re,va_im,vb_re,vb_im,vc_re,vc_im,tol,sweeps\nS,1000000,0,-500000,-866000,-500000,866000,1,50\n\nfrom,to,phases,kind,p1,p2,p3,p4,p5,p6,p7,p8,p9,p10,p11,p12\nN1,N2,A,L,4162677,3190106,0,0,0,0,0,0,0,0,0,0\nN0,N1,A,L,6097582,9404403,0,0,0,0,0,0,0,0,0,0\nS,N0,A,L,8952019,5359031,0,0,0,0,0,0,0,0,0,0\n\nnode,phase,kind,vn,p,q\nN2,A,P,1414286,910478,-265658\n") (bytes "node,va_re,va_im,vb_re,vb_im,vc_re,vc_im\nS,1000000,0,-500000,-866000,-500000,866000\nN2,930734,-93844,0,0,0,0\nN1,946308,-76563,0,0,0,0\nN0,965293,-30615,0,0,0,0\n\nfrom,to,ia_re,ia_im,ib_re,ib_im,ic_re,ic_im,loss_p,loss_q\nN1,N2,43613,8090,0,0,0,0,819032152,627682593\nN0,N1,43613,8090,0,0,0,0,1199712125,1850341474\nS,N0,43613,8090,0,0,0,0,1761351741,1054432365\n\nsweeps,source_p,source_q,drawn_p,drawn_q,lost_p,lost_q\n8,43613000000,-8090000000,39832903982,-11622456432,3780096018,3532456432\n") ≡ Ok (record { differs = record { re = pos 272666; im = negsuc 124631 }; allowed = 1283097 })
unfolding opened
a3-00261 = refl

-- S-3, 00335-rand-own
a3-00335 : account_of (bytes "source,va_re,va_im,vb_re,vb_im,vc_re,vc_im,tol,sweeps\n36,12000,0,-5817,-10496,-6000,10392,0,3\n\nfrom,to,phases,kind,p1,p2,p3,p4,p5,p6,p7,p8,p9,p10,p11,p12\n\nnode,phase,kind,vn,p,q\n36,AB,Z,20785,0,-1288\n36,BC,Z,20785,16,6\n") (bytes "node,va_re,va_im,vb_re,vb_im,vc_re,vc_im\n36,12000,0,-5817,-10496,-6000,10392\n\nfrom,to,ia_re,ia_im,ib_re,ib_im,ic_re,ic_im,loss_p,loss_q\n\nsweeps,source_p,source_q,drawn_p,drawn_q,lost_p,lost_q\n1,1629499,-126886750,1629499,-126886750,0,0\n") ≡ Ok (record { differs = record { re = pos 13478; im = negsuc 5967 }; allowed = 49386 })
unfolding opened
a3-00335 = refl

-- S-3, 00420-rand-own
a3-00420 : account_of (bytes "source,va_re,va_im,vb_re,vb_im,vc_re,vc_im,tol,sweeps\nBOQ,-11774,1811,7292,9087,5313,-10760,20,1\n\nfrom,to,phases,kind,p1,p2,p3,p4,p5,p6,p7,p8,p9,p10,p11,p12\nBOQ,8P8X,ABC,R,8,-4,-15,0,0,0,0,0,0,0,0,0\n8P8X,E1CUQIZW,ABC,L,-252,-103,0,0,-78,63,-220,384,-143,81,-130,-372\nE1CUQIZW,SI3,ABC,L,37282,99442,15331,26536,46702,32568,64914,63293,0,0,93293,108656\nSI3,0,ABC,L,777066,-822928,212850,405470,427086,292518,482502,-959035,125154,201713,993925,417858\n0,1MB,ABC,D,58265,34410,5399084,4183925,9944251,8870877,7275927,2884466,0,0,0,0\nE1CUQIZW,9,ABC,L,257,285,0,0,115,54,234,264,48,94,151,220\n9,DH,ABC,D,406,240,6,18,22,24,13,11,0,0,0,0\nDH,G8U,BC,R,0,-10,1,0,0,0,0,0,0,0,0,0\nG8U,OLF,BC,R,0,4,-7,0,0,0,0,0,0,0,0,0\nOLF,QT,B,L,0,0,0,0,0,0,0,0,0,0,0,0\nQT,LBQ,B,L,0,0,0,0,0,0,6969,10342,0,0,0,0\nLBQ,ASW,B,L,0,0,0,0,0,0,85886,116343,0,0,0,0\nASW,UWG,B,L,0,0,0,0,0,0,37215,68519,0,0,0,0\nUWG,BS06,B,R,0,-13,0,0,0,0,0,0,0,0,0,0\nBS06,0V0,B,L,0,0,0,0,0,0,1246,1104,0,0,0,0\n0V0,BGO8C4UB,B,L,0,0,0,0,0,0,46244,-73866,0,0,0,0\nBGO8C4UB,191,B,L,0,0,0,0,0,0,782,-1188,0,0,0,0\n191,71F,B,L,0,0,0,0,0,0,0,0,0,0,0,0\n71F,FB,B,R,0,4,0,0,0,0,0,0,0,0,0,0\nFB,3MYH1KBT,B,L,0,0,0,0,0,0,7372892,-4239795,0,0,0,0\n\nnode,phase,kind,vn,p,q\nQT,B,Z,11574,0,-458\nG8U,C,Z,9478,0,0\n71F,B,I,10704,-4,6\n") (bytes "node,va_re,va_im,vb_re,vb_im,vc_re,vc_im\nBOQ,-11774,1811,7292,9087,5313,-10760\n8P8X,-12394,1906,7114,8865,4858,-9838\nE1CUQIZW,-12394,1906,7114,8865,4858,-9838\nSI3,-12394,1906,7114,8865,4858,-9838\n0,-12394,1906,7114,8865,4858,-9838\n1MB,-10189,6936,11521,4110,-1332,-11046\n9,-12394,1906,7114,8865,4858,-9838\nDH,-10198,6942,11532,4114,-1334,-11056\nG8U,0,0,10854,3872,-1342,-11126\nOLF,0,0,11132,3971,-1286,-10660\nQT,0,0,11132,3971,0,0\nLBQ,0,0,11132,3971,0,0\nASW,0,0,11132,3971,0,0\nUWG,0,0,11132,3971,0,0\nBS06,0,0,10295,3673,0,0\n0V0,0,0,10295,3673,0,0\nBGO8C4UB,0,0,10295,3673,0,0\n191,0,0,10295,3673,0,0\n71F,0,0,10295,3673,0,0\nFB,0,0,10559,3767,0,0\n3MYH1KBT,0,0,10559,3767,0,0\n\nfrom,to,ia_re,ia_im,ib_re,ib_im,ic_re,ic_im,loss_p,loss_q\nBOQ,8P8X,783,-2138,-783,2138,0,0,0,0\n8P8X,E1CUQIZW,783,-2138,-783,2138,0,0,0,0\nE1CUQIZW,SI3,0,0,0,0,0,0,0,0\nSI3,0,0,0,0,0,0,0,0,0\n0,1MB,0,0,0,0,0,0,0,0\nE1CUQIZW,9,783,-2138,-783,2138,0,0,0,0\n9,DH,0,0,-1325,3616,0,0,0,0\nDH,G8U,0,0,-1408,3842,0,0,0,0\nG8U,OLF,0,0,-1373,3746,0,0,0,0\nOLF,QT,0,0,-1373,3746,0,0,0,0\nQT,LBQ,0,0,-15,-60,0,0,0,0\nLBQ,ASW,0,0,-15,-60,0,0,45,75\nASW,UWG,0,0,-15,-60,0,0,0,0\nUWG,BS06,0,0,-16,-65,0,0,0,0\nBS06,0V0,0,0,-16,-65,0,0,0,0\n0V0,BGO8C4UB,0,0,-16,-65,0,0,16,-65\nBGO8C4UB,191,0,0,-16,-65,0,0,0,0\n191,71F,0,0,-16,-65,0,0,0,0\n71F,FB,0,0,0,0,0,0,0,0\nFB,3MYH1KBT,0,0,0,0,0,0,0,0\n\nsweeps,source_p,source_q,drawn_p,drawn_q,lost_p,lost_q\n1,-393943,-47164590,-407095,-47150603,61,10\n") ≡ Ok (record { differs = record { re = pos 14432; im = negsuc 17794 }; allowed = 515771 })
unfolding opened
a3-00420 = refl

-- S-3, 00513-rand-own
a3-00513 : account_of (bytes "source,va_re,va_im,vb_re,vb_im,vc_re,vc_im,tol,sweeps\nS8,371761,-394795,-530267,-113521,148721,514938,1000,50\n\nfrom,to,phases,kind,p1,p2,p3,p4,p5,p6,p7,p8,p9,p10,p11,p12\nS8,AB,ABC,L,1,0,0,0,0,0,0,1,0,0,0,0\nAB,90UL,ABC,L,0,-1,0,0,0,0,1,1,0,0,1,1\n90UL,UF,ABC,L,607791,1432290,155419,485757,181820,150626,657004,843494,0,0,801731,-1715242\nUF,UY8E,ABC,L,91787795,43959760,0,0,0,0,97596425,-98935559,27665482,-10218775,41317579,51915574\n\nnode,phase,kind,vn,p,q\nUF,AB,P,939260,601,-142\n") (bytes "node,va_re,va_im,vb_re,vb_im,vc_re,vc_im\nS8,371761,-394795,-530267,-113521,148721,514938\nAB,371761,-394795,-530267,-113521,148721,514938\n90UL,371761,-394795,-530267,-113521,148721,514938\nUF,371761,-394795,-530267,-113521,148721,514938\nUY8E,371761,-394795,-530267,-113521,148721,514938\n\nfrom,to,ia_re,ia_im,ib_re,ib_im,ic_re,ic_im,loss_p,loss_q\nS8,AB,65,-5,-65,5,0,0,0,0\nAB,90UL,65,-5,-65,5,0,0,0,0\n90UL,UF,65,-5,-65,5,0,0,350,550\nUF,UY8E,0,0,0,0,0,0,0,0\n\nsweeps,source_p,source_q,drawn_p,drawn_q,lost_p,lost_q\n1,60038190,-13772670,60038190,-13772670,350,550\n") ≡ Ok (record { differs = record { re = negsuc 62214; im = pos 426776 }; allowed = 1463727 })
unfolding opened
a3-00513 = refl

-- S-4, 00060-rand-own
a4-00060 : account_of (bytes "source,va_re,va_im,vb_re,vb_im,vc_re,vc_im,tol,sweeps\nS,-2,-1,-1,0,0,2,7,20\n\nfrom,to,phases,kind,p1,p2,p3,p4,p5,p6,p7,p8,p9,p10,p11,p12\nS,N3,ABC,D,6,8,84746,84746,84746,84746,84746,-84746,0,0,0,0\nS,N0,B,R,0,10,0,0,0,0,0,0,0,0,0,0\nN2,N4,B,R,0,10,0,0,0,0,0,0,0,0,0,0\nN0,N2,B,R,0,-4,0,0,0,0,0,0,0,0,0,0\nN0,N1,B,L,0,0,0,0,0,0,4999990,5000000,0,0,0,0\n\nnode,phase,kind,vn,p,q\nN3,AB,I,15266,1,-2\nN3,AB,Z,144,2,-1\nS,BC,I,10399,0,0\n") (bytes "node,va_re,va_im,vb_re,vb_im,vc_re,vc_im\nS,-2,-1,-1,0,0,2\nN3,-3,-4,1,1,1,3\nN0,0,0,-1,0,0,0\nN4,0,0,-1,0,0,0\nN2,0,0,-1,0,0,0\nN1,0,0,-1,0,0,0\n\nfrom,to,ia_re,ia_im,ib_re,ib_im,ic_re,ic_im,loss_p,loss_q\nS,N3,-7,-82,7,82,0,0,150,178\nS,N0,0,0,0,0,0,0,0,0\nN2,N4,0,0,0,0,0,0,0,0\nN0,N2,0,0,0,0,0,0,0,0\nN0,N1,0,0,0,0,0,0,0,0\n\nsweeps,source_p,source_q,drawn_p,drawn_q,lost_p,lost_q\n1,466,-292,438,-293,150,178\n") ≡ Ok (record { differs = record { re = negsuc 88; im = negsuc 118 }; allowed = 3359 })
unfolding opened
a4-00060 = refl

-- S-4, 00148-rand-own
a4-00148 : account_of (bytes "source,va_re,va_im,vb_re,vb_im,vc_re,vc_im,tol,sweeps\nL3,716241,73475,-377334,-612507,-381947,610341,5,1\n\nfrom,to,phases,kind,p1,p2,p3,p4,p5,p6,p7,p8,p9,p10,p11,p12\nL3,D12WEMTH,ABC,R,2,15,5,0,0,0,0,0,0,0,0,0\nL3,1,ABC,R,9,14,-4,0,0,0,0,0,0,0,0,0\n\nnode,phase,kind,vn,p,q\nL3,AB,I,1247077,1481,416\n1,C,Z,749675,0,-3945\nL3,AB,P,1247077,128937,52164\n1,A,I,749675,117073,54228\n1,C,P,749675,7448,8136\nL3,B,P,720000,2403,2156\nD12WEMTH,AB,Z,1306980,-16513,21065\nD12WEMTH,A,Z,754585,0,-2806\nL3,CA,P,1728811,66,-16\nD12WEMTH,AB,I,1354919,250,138\nD12WEMTH,C,I,754585,5749,82\nD12WEMTH,A,Z,754585,5562,1035\n") (bytes "node,va_re,va_im,vb_re,vb_im,vc_re,vc_im\nL3,716241,73475,-377334,-612507,-381947,610341\nD12WEMTH,725307,74405,-416369,-675870,-394268,630029\n1,758931,77854,-413517,-671241,-372631,595455\n\nfrom,to,ia_re,ia_im,ib_re,ib_im,ic_re,ic_im,loss_p,loss_q\nL3,D12WEMTH,528,-1833,157,2131,-395,652,0,0\nL3,1,16273,-5602,0,0,1,1251,0,0\n\nsweeps,source_p,source_q,drawn_p,drawn_q,lost_p,lost_q\n1,25258515224,13616096786,25258085948,13616494998,0,0\n") ≡ Ok (record { differs = record { re = negsuc 812480; im = negsuc 1341970 }; allowed = 21509534 })
unfolding opened
a4-00148 = refl

-- S-4, 00249-rand-own
a4-00249 : account_of (bytes "source,va_re,va_im,vb_re,vb_im,vc_re,vc_im,tol,sweeps\nKZ7X,1044035,1,1,-1951484,1499075,-374,609,10\n\nfrom,to,phases,kind,p1,p2,p3,p4,p5,p6,p7,p8,p9,p10,p11,p12\nKZ7X,PHFRF4EB,ABC,L,51,-18784070,77524248,-94950637,-284,100000000,-100000000,0,-1,-78162321,0,0\n\nnode,phase,kind,vn,p,q\nKZ7X,BC,P,1772955,-3000000,-3000000\nKZ7X,AB,P,3573656,1,3\n") (bytes "node,va_re,va_im,vb_re,vb_im,vc_re,vc_im\nKZ7X,1044035,1,1,-1951484,1499075,-374\nPHFRF4EB,1044035,1,1,-1951484,1499075,-374\n\nfrom,to,ia_re,ia_im,ib_re,ib_im,ic_re,ic_im,loss_p,loss_q\nKZ7X,PHFRF4EB,0,0,0,0,0,0,0,0\n\nsweeps,source_p,source_q,drawn_p,drawn_q,lost_p,lost_q\n1,-300000046706,-300000067990,-300000046706,-300000067990,0,0\n") ≡ Ok (record { differs = record { re = negsuc 85060; im = negsuc 183053 }; allowed = 477492590 })
unfolding opened
a4-00249 = refl

-- S-5, 00002-k004s5-own
a5-00002 : account_of (bytes "source,va_re,va_im,vb_re,vb_im,vc_re,vc_im,tol,sweeps\nN1,719956,0,-359978,-623500,-359978,623500,1,40\n\nfrom,to,phases,kind,p1,p2,p3,p4,p5,p6,p7,p8,p9,p10,p11,p12\nN1,N2,ABC,L,141400,535300,36100,322500,36100,257200,141400,535300,36100,295500,141400,535300\nN2,N3R,ABC,D,12470,2400,28800,172800,28800,172800,28800,172800,0,0,0,0\nN3R,N3,ABC,R,0,0,0,12100,200,20,200,1460000,2840000,0,0,0\nN3,N4,ABC,L,190700,503500,60700,230200,59800,175100,193900,488500,61400,193100,192100,497000\n\nnode,phase,kind,vn,p,q\nN4,A,P,240000,637500,395087\nN4,B,P,240000,900000,435890\nN4,C,P,240000,1187500,390312\n") (bytes "node,va_re,va_im,vb_re,vb_im,vc_re,vc_im\nN1,719956,0,-359978,-623500,-359978,623500\nN2,716561,-1754,-361131,-619621,-356228,621920\nN3R,200969,-121711,-206237,-111118,9087,233494\nN3,212947,-128965,-221463,-119321,9824,252426\nN4,205721,-127485,-213079,-107227,25922,240140\n\nfrom,to,ia_re,ia_im,ib_re,ib_im,ic_re,ic_im,loss_p,loss_q\nN1,N2,114755,-55278,-131038,-99413,16283,154690,710520776,1617683311\nN2,N3R,146131,-294054,-450118,-6841,230733,509692,1795686313,10774124863\nN3R,N3,137911,-277513,-419172,-6371,213428,471465,0,0\nN3,N4,137911,-277513,-419172,-6371,213428,471465,7355513838,17029537434\n\nsweeps,source_p,source_q,drawn_p,drawn_q,lost_p,lost_q\n7,282361046670,151550875174,272499913157,122128981963,9861720927,29421345608\n\nto,tap_a,tap_b,tap_c\nN3,9,11,12\n") ≡ Ok (record { differs = record { re = negsuc 591517; im = pos 962482 }; allowed = 14429458 })
unfolding opened
a5-00002 = refl

-- S-5, 00185-bracket-minus-1-own
a5-00185 : account_of (bytes "source,va_re,va_im,vb_re,vb_im,vc_re,vc_im,tol,sweeps\nS,1,0,1,0,1,0,1,20\n\nfrom,to,phases,kind,p1,p2,p3,p4,p5,p6,p7,p8,p9,p10,p11,p12\nS,N1,A,R,0,0,0,1,3,10000,100,0,0,0,0,0\n\nnode,phase,kind,vn,p,q\n") (bytes "node,va_re,va_im,vb_re,vb_im,vc_re,vc_im\nS,1,0,1,0,1,0\nN1,1,0,0,0,0,0\n\nfrom,to,ia_re,ia_im,ib_re,ib_im,ic_re,ic_im,loss_p,loss_q\nS,N1,0,0,0,0,0,0,0,0\n\nsweeps,source_p,source_q,drawn_p,drawn_q,lost_p,lost_q\n1,0,0,0,0,0,0\n\nto,tap_a,tap_b,tap_c\nN1,0,0,0\n") ≡ Ok (record { differs = record { re = pos 0; im = pos 0 }; allowed = 3 })
unfolding opened
a5-00185 = refl

-- S-5, 00465-settled-at-other-12+1
a5-00465 : account_of (bytes "source,va_re,va_im,vb_re,vb_im,vc_re,vc_im,tol,sweeps\nS,700000,10,-340000,-640000,-380000,600000,1,40\n\nfrom,to,phases,kind,p1,p2,p3,p4,p5,p6,p7,p8,p9,p10,p11,p12\nR2,E,AC,L,500000,500000,0,0,0,0,0,0,0,0,500000,500000\nL1,R3,AB,R,5,-5,0,0,0,0,0,0,0,0,0,0\nL1,R2,AC,R,3,0,-2,12200,250,60,100,300000,100000,0,0,0\nR1,L1,ABC,L,300000,600000,100000,200000,90000,180000,300000,600000,80000,170000,300000,600000\nS,R1,ABC,R,0,0,0,12000,150,60,200,1460000,2840000,0,0,0\n\nnode,phase,kind,vn,p,q\nL1,A,P,720000,400000,100000\nL1,B,P,720000,400000,100000\nE,A,P,720000,400000,100000\nE,C,P,720000,400000,100000\nR3,B,P,720000,400000,100000\n") (bytes "node,va_re,va_im,vb_re,vb_im,vc_re,vc_im\nS,700000,10,-340000,-640000,-380000,600000\nE,732854,-5659,0,0,-387065,617061\nR3,745781,-3686,-332943,-615672,0,0\nR2,736280,-3639,0,0,-390633,618874\nL1,722475,-3571,-343347,-634912,-383309,607270\nR1,727273,10,-340000,-640000,-384810,607595\n\nfrom,to,ia_re,ia_im,ib_re,ib_im,ic_re,ic_im,loss_p,loss_q\nR2,E,54473,-14066,0,0,-17550,53814,318448833,318429844\nL1,R3,0,0,-39752,-43473,0,0,0,0\nL1,R2,54473,-14066,0,0,-17550,53814,0,0\nR1,L1,110809,-28450,-77094,-84311,-17885,54842,645425526,1284512864\nS,R1,110809,-28450,-77094,-84311,-17885,54842,0,0\n\nsweeps,source_p,source_q,drawn_p,drawn_q,lost_p,lost_q\n1,200962684420,51603251260,199999497791,50000755581,963874359,1602942708\n\nto,tap_a,tap_b,tap_c\nR3,5,-5,0\nR2,3,0,3\nR1,6,0,2\n") ≡ Ok (record { differs = record { re = negsuc 1234706; im = pos 358381 }; allowed = 12332813 })
unfolding opened
a5-00465 = refl

-- S-5, 00639-relay-reported-11996-719900
a5-00639 : account_of (bytes "source,va_re,va_im,vb_re,vb_im,vc_re,vc_im,tol,sweeps\nS,720000,0,-360000,-623538,-360000,623538,1000,20\n\nfrom,to,phases,kind,p1,p2,p3,p4,p5,p6,p7,p8,p9,p10,p11,p12\nS,N0,A,L,500000,0,0,0,0,0,0,0,0,0,0,0\nN0,N1,A,R,0,0,0,11996,4,60,1,0,0,0,0,0\n\nnode,phase,kind,vn,p,q\nN1,A,P,720000,72000,0\n") (bytes "node,va_re,va_im,vb_re,vb_im,vc_re,vc_im\nS,720000,0,-360000,-623538,-360000,623538\nN0,719900,0,0,0,0,0\nN1,719900,0,0,0,0,0\n\nfrom,to,ia_re,ia_im,ib_re,ib_im,ic_re,ic_im,loss_p,loss_q\nS,N0,10001,0,0,0,0,0,5000500,0\nN0,N1,10001,0,0,0,0,0,0,0\n\nsweeps,source_p,source_q,drawn_p,drawn_q,lost_p,lost_q\n1,7200720000,0,7199719900,0,5000500,0\n\nto,tap_a,tap_b,tap_c\nN1,0,0,0\n") ≡ Ok (record { differs = record { re = negsuc 4280999; im = pos 0 }; allowed = 21463804 })
unfolding opened
a5-00639 = refl

-- S-5, 00754-moved-tol
a5-00754 : account_of (bytes "source,va_re,va_im,vb_re,vb_im,vc_re,vc_im,tol,sweeps\nGO,-707285,-23776,328008,614958,380358,-610470,2,20\n\nfrom,to,phases,kind,p1,p2,p3,p4,p5,p6,p7,p8,p9,p10,p11,p12\nGO,Y,ABC,Y,1,1,12955063,16929057,17034300,18537857,6002645,12600687,0,0,0,0\n\nnode,phase,kind,vn,p,q\nY,B,Z,667762,0,-22\nY,AB,Z,2000001,53136,6833\nY,AB,I,1247077,753,687\n") (bytes "node,va_re,va_im,vb_re,vb_im,vc_re,vc_im\nGO,-707285,-23776,328008,614958,380358,-610470\nY,-706358,-20298,326559,610968,380358,-610470\n\nfrom,to,ia_re,ia_im,ib_re,ib_im,ic_re,ic_im,loss_p,loss_q\nGO,Y,-1560,-646,1557,648,0,0,8537635,10099020\n\nsweeps,source_p,source_q,drawn_p,drawn_q,lost_p,lost_q\n14,2027925136,325124872,2019390615,315024556,8537635,10099020\n\nto,tap_a,tap_b,tap_c\n") ≡ Ok (record { differs = record { re = negsuc 361547; im = pos 377337 }; allowed = 6957510 })
unfolding opened
a5-00754 = refl

-- S-5, 00889-without-table
a5-00889 : account_of (bytes "source,va_re,va_im,vb_re,vb_im,vc_re,vc_im,tol,sweeps\n23B,720000,0,-393888,-629912,-377114,613340,2,2\n\nfrom,to,phases,kind,p1,p2,p3,p4,p5,p6,p7,p8,p9,p10,p11,p12\nLQ,LZ,C,L,0,0,0,0,0,0,0,0,0,0,422162,519404\n23B,R5N,ABC,L,-242935,-81847,0,0,0,0,-149466,-79933,0,0,-192314,114753\n23B,LQ,BC,L,0,0,0,0,0,0,1,-1,0,0,1,0\n\nnode,phase,kind,vn,p,q\nLQ,B,P,1045374,1284,981\n23B,C,Z,653300,0,-723\nR5N,C,P,720000,75719,58458\n23B,BC,I,1247077,7,4\nR5N,CA,Z,1287267,0,-3000\nLZ,C,I,792250,-9,19\nLQ,C,Z,720000,0,-252\nR5N,BC,P,1793998,153,65\nR5N,CA,Z,1473795,34568,8628\nLQ,C,Z,580377,119,23\nLQ,C,I,703772,21,10\nLZ,C,P,1018287,2309,304\n") (bytes "node,va_re,va_im,vb_re,vb_im,vc_re,vc_im\n23B,720000,0,-393888,-629912,-377114,613340\nLZ,0,0,0,0,-377093,613334\nR5N,720049,-16,-393888,-629912,-376952,613620\nLQ,0,0,-393888,-629912,-377114,613340\n\nfrom,to,ia_re,ia_im,ib_re,ib_im,ic_re,ic_im,loss_p,loss_q\nLQ,LZ,0,0,0,0,-129,295,4479,5421\n23B,R5N,1613,-1213,-3,-6,-197,14427,-4106091,2358705\n23B,LQ,0,0,-204,-77,-168,304,0,0\n\nsweeps,source_p,source_q,drawn_p,drawn_q,lost_p,lost_q\n2,10469145010,6214516884,10473246622,6212152758,-4101612,2364126\n") ≡ Ok (record { differs = record { re = negsuc 121281; im = negsuc 495603 }; allowed = 14005669 })
unfolding opened
a5-00889 = refl

-- S-5, 01030-moved-alltol
a5-01030 : account_of (bytes "source,va_re,va_im,vb_re,vb_im,vc_re,vc_im,tol,sweeps\nPHD,12000,0,-5389,-10250,-5503,10058,2,3\n\nfrom,to,phases,kind,p1,p2,p3,p4,p5,p6,p7,p8,p9,p10,p11,p12\nPHD,CT,ABC,R,14,0,10,0,0,0,0,0,0,0,0,0\nPHD,V,ABC,L,226618,452627,0,0,0,0,122540,156151,84326,126786,333182,-322105\nPHD,QG,B,R,0,-10,0,10899,20000,1,100,0,0,0,0,0\n\nnode,phase,kind,vn,p,q\nCT,CA,Z,21879,0,1\nV,CA,Z,20785,0,-327\nQG,B,P,11455,31,2\nQG,B,P,11294,0,0\nPHD,B,P,12000,7,2\nCT,BC,P,32519,15,0\nPHD,B,I,10090,1255,-145\nCT,BC,P,24877,1980,-597\nPHD,BC,P,20785,37,8\nCT,A,I,12632,1,0\nPHD,C,Z,12000,7,4\nV,CA,P,20785,975,708\n") (bytes "node,va_re,va_im,vb_re,vb_im,vc_re,vc_im\nPHD,12000,0,-5389,-10250,-5503,10058\nCT,13153,-2,-5387,-10252,-5872,10731\nV,11734,-49,-5306,-10243,-5529,9815\nQG,0,0,-5074,-9649,0,0\n\nfrom,to,ia_re,ia_im,ib_re,ib_im,ic_re,ic_im,loss_p,loss_q\nPHD,CT,6,-4,3063,-9395,-3061,9399,0,0\nPHD,V,3238,-4218,0,0,-3238,4218,1582460,367276\nPHD,QG,0,0,-149,-243,0,0,0,0\n\nsweeps,source_p,source_q,drawn_p,drawn_q,lost_p,lost_q\n3,449945248,-33473723,448394759,-33827178,1582460,367276\n\nto,tap_a,tap_b,tap_c\nCT,14,0,10\nQG,0,-10,0\n") ≡ Ok (record { differs = record { re = negsuc 46289; im = negsuc 43823 }; allowed = 584930 })
unfolding opened
a5-01030 = refl
