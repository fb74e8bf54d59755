-- Vectors: the study's other refusals. Assumes nothing.
use Rattle.std.specs.Prelude.{◌≡◌, refl, Err}
use Rattle.answers.specs.declared.Refusal.TheVariants.{OutOfLimit, UnknownFrom, PhaseAbsent, NotZero, LoadBeyond, VoltageBeyond, NotSettled, BufferShort}
use Rattle.text.specs.Text.{bytes}
use Rattle.ladder.specs.Study.{study_of}
use Rattle.trials.specs.Opened.{opened}

-- 00853-shape-sweeps-'100000000000000000'
v00853 : study_of (bytes "source,va_re,va_im,vb_re,vb_im,vc_re,vc_im,tol,sweeps\nS,720000,0,-360000,-623538,-360000,623538,1,100000000000000000\n\nfrom,to,phases,kind,p1,p2,p3,p4,p5,p6,p7,p8,p9,p10,p11,p12\nS,N1,A,R,0,0,0,0,0,0,0,0,0,0,0,0\n\nnode,phase,kind,vn,p,q\nN1,A,P,720000,0,0\n") 1000000 ≡ Err (OutOfLimit 2)
unfolding opened
v00853 = refl

-- 00904-20-over-21
v00904 : study_of (bytes "source,va_re,va_im,vb_re,vb_im,vc_re,vc_im,tol,sweeps\nS,720000,0,-360000,-623538,-360000,623538,1,20\n\nfrom,to,phases,kind,p1,p2,p3,p4,p5,p6,p7,p8,p9,p10,p11,p12\nS,N,A,L,0,0,0,0,0,0,0,0,0,0,0,0\nS,N,A,L,0,0,0,0,0,0,0,0,0,0,0,0\nQ,M,A,L,0,0,0,0,0,0,0,0,0,0,0,0\n\nnode,phase,kind,vn,p,q\n") 1000000 ≡ Err (UnknownFrom 7)
unfolding opened
v00904 = refl

-- 00960-fault-23y
v00960 : study_of (bytes "source,va_re,va_im,vb_re,vb_im,vc_re,vc_im,tol,sweeps\n5,1200000,0,-600000,-1039230,-586311,1015520,100,3\n\nfrom,to,phases,kind,p1,p2,p3,p4,p5,p6,p7,p8,p9,p10,p11,p12\nYP,GC,B,L,0,0,0,0,0,0,68345631,-57539714,0,0,0,0\n5,YP,C,Y,2,1,0,0,0,0,0,0,0,0,0,0\n\nnode,phase,kind,vn,p,q\n") 1000000 ≡ Err (PhaseAbsent 5)
unfolding opened
v00960 = refl

-- 00951-fault-24t
v00951 : study_of (bytes "source,va_re,va_im,vb_re,vb_im,vc_re,vc_im,tol,sweeps\nFAHOMGFH,1211068,0,-601861,-1042454,-600000,1039230,100,1\n\nfrom,to,phases,kind,p1,p2,p3,p4,p5,p6,p7,p8,p9,p10,p11,p12\nFAHOMGFH,API5YOJ7,ABC,Y,5,4,0,0,0,0,0,0,0,0,0,-999999999999999999\nFAHOMGFH,VE,ABC,L,86863569,-92387477,18160104,-14281264,13665896,12947432,36347165,45549422,0,0,34139631,77674821\n\nnode,phase,kind,vn,p,q\nFAHOMGFH,A,P,1340570,111082,6528\nAPI5YOJ7,C,Z,1200000,0,-106\nAPI5YOJ7,C,I,1122028,1053,-106\nVE,C,P,1200000,541,-43\nVE,C,P,1200000,4952,-550\nVE,B,Z,1200000,51,13\nFAHOMGFH,B,P,1195459,-551,-360\nAPI5YOJ7,C,Z,1200000,0,-2942\n") 1000000 ≡ Err (NotZero 5)
unfolding opened
v00951 = refl

-- 01098-wild
v01098 : study_of (bytes "source,va_re,va_im,vb_re,vb_im,vc_re,vc_im,tol,sweeps\nII,-2000000,0,-1,-741260,2000000,-3259,846,2\n\nfrom,to,phases,kind,p1,p2,p3,p4,p5,p6,p7,p8,p9,p10,p11,p12\nII,O31MMFFL,C,L,0,0,0,0,0,0,0,0,0,0,253333,147050\nO31MMFFL,7,C,R,0,0,-1,0,0,0,0,0,0,0,0,0\n\nnode,phase,kind,vn,p,q\nII,B,I,49874,479946,-3000000\nII,C,P,50,-114352,-1427271\n7,C,P,221180,1661,204\n") 1000000 ≡ Err (LoadBeyond 1)
unfolding opened
v01098 = refl

-- 00927-wild
v00927 : study_of (bytes "source,va_re,va_im,vb_re,vb_im,vc_re,vc_im,tol,sweeps\nH,-1834942,-2000000,-1,2,2000000,-2000000,1000,100\n\nfrom,to,phases,kind,p1,p2,p3,p4,p5,p6,p7,p8,p9,p10,p11,p12\nH,PSSW,ABC,D,8,1,38383229,-59211796,-490,1,-100000000,1,0,0,0,0\nH,ZYAW,ABC,L,0,0,0,0,0,0,0,0,0,0,1,-1\nH,9,ABC,R,13,8,14,0,0,0,0,0,0,0,0,0\nPSSW,YF4VW2QZ,ABC,R,2,-9,-11,0,0,0,0,0,0,0,0,0\n\nnode,phase,kind,vn,p,q\nH,B,Z,1831536,-2705015,17675\nZYAW,C,P,2000000,-3000000,0\nH,B,I,720000,6041,-3448\nH,B,I,2000000,-1,-2859956\n9,C,Z,2000000,3000000,-71098\nH,A,Z,620637,0,-12\n9,A,Z,321587,-581025,-266092\nPSSW,A,I,4,-253514,-1\nZYAW,C,I,673396,255,-399\nYF4VW2QZ,B,I,5359,11,-5\nPSSW,C,P,6370,178,143\n9,A,I,369217,3000000,1344246\n") 1000000 ≡ Err (VoltageBeyond 0)
unfolding opened
v00927 = refl

-- 00226-34-oscillates-buf347
v00226 : study_of (bytes "source,va_re,va_im,vb_re,vb_im,vc_re,vc_im,tol,sweeps\nS,720000,0,-360000,-623538,-360000,623538,0,100\n\nfrom,to,phases,kind,p1,p2,p3,p4,p5,p6,p7,p8,p9,p10,p11,p12\nS,N1,A,L,30000000,30000000,0,0,0,0,0,0,0,0,0,0\n\nnode,phase,kind,vn,p,q\nN1,A,P,720000,300000,100000\n") 347 ≡ Err (NotSettled 100)
unfolding opened
v00226 = refl

-- 01043-good
v01043 : study_of (bytes "source,va_re,va_im,vb_re,vb_im,vc_re,vc_im,tol,sweeps\n4J,11995,-345,-6004,-10655,-6583,9748,2,1\n\nfrom,to,phases,kind,p1,p2,p3,p4,p5,p6,p7,p8,p9,p10,p11,p12\n4J,P9,ABC,L,19036146,-53599783,0,0,19813583,17763387,17259059,30499342,5529343,-7408983,23698746,22491899\nP9,RTM,ABC,L,37065130,34112045,31219893,39292008,10315460,-9999440,70864610,61328679,21987290,30422579,26476695,47734995\nRTM,4R,ABC,R,-9,-16,-12,0,0,0,0,0,0,0,0,0\n\nnode,phase,kind,vn,p,q\n4R,C,P,11141,0,0\nRTM,B,P,10537,5,-1\nP9,C,Z,12000,71,31\n") 1000000 ≡ Err (NotSettled 1)
unfolding opened
v01043 = refl

-- 00018-source-loads-only-buf1
v00018 : study_of (bytes "source,va_re,va_im,vb_re,vb_im,vc_re,vc_im,tol,sweeps\nS,720000,0,-360000,-623538,-360000,623538,1,20\n\nfrom,to,phases,kind,p1,p2,p3,p4,p5,p6,p7,p8,p9,p10,p11,p12\n\nnode,phase,kind,vn,p,q\nS,A,P,720000,72000,5\nS,C,I,720000,-7,9\n") 1 ≡ Err (BufferShort 264)
unfolding opened
v00018 = refl

-- 00042-30-not-Z-buf1
v00042 : study_of (bytes "source,va_re,va_im,vb_re,vb_im,vc_re,vc_im,tol,sweeps\nS,0,0,-360000,-623538,-360000,623538,1,20\n\nfrom,to,phases,kind,p1,p2,p3,p4,p5,p6,p7,p8,p9,p10,p11,p12\nS,N1,A,L,0,0,0,0,0,0,0,0,0,0,0,0\n\nnode,phase,kind,vn,p,q\nN1,A,Z,720000,1,0\n") 1 ≡ Err (BufferShort 265)
unfolding opened
v00042 = refl

-- 00069-31-edge-2000000-buf1
v00069 : study_of (bytes "source,va_re,va_im,vb_re,vb_im,vc_re,vc_im,tol,sweeps\nS,100000,0,-360000,-623538,-360000,623538,1,20\n\nfrom,to,phases,kind,p1,p2,p3,p4,p5,p6,p7,p8,p9,p10,p11,p12\nS,N1,A,L,0,0,0,0,0,0,0,0,0,0,0,0\n\nnode,phase,kind,vn,p,q\nN1,A,P,100000,2000000,0\n") 1 ≡ Err (BufferShort 303)
unfolding opened
v00069 = refl

-- 00098-32-sum-ok-buf1
v00098 : study_of (bytes "source,va_re,va_im,vb_re,vb_im,vc_re,vc_im,tol,sweeps\nS,100000,0,-360000,-623538,-360000,623538,1,20\n\nfrom,to,phases,kind,p1,p2,p3,p4,p5,p6,p7,p8,p9,p10,p11,p12\nS,N1,A,L,0,0,0,0,0,0,0,0,0,0,0,0\n\nnode,phase,kind,vn,p,q\nN1,A,P,100000,1500000,0\nN1,A,P,100000,500000,0\n") 1 ≡ Err (BufferShort 303)
unfolding opened
v00098 = refl

-- 00121-32-source-J-sum-free-buf1
v00121 : study_of (bytes "source,va_re,va_im,vb_re,vb_im,vc_re,vc_im,tol,sweeps\nS,100000,0,100000,0,100000,0,1,20\n\nfrom,to,phases,kind,p1,p2,p3,p4,p5,p6,p7,p8,p9,p10,p11,p12\nS,N1,A,L,0,0,0,0,0,0,0,0,0,0,0,0\nS,N2,A,L,0,0,0,0,0,0,0,0,0,0,0,0\nS,N3,A,L,0,0,0,0,0,0,0,0,0,0,0,0\n\nnode,phase,kind,vn,p,q\nN1,A,P,100000,2000000,0\nN2,A,P,100000,2000000,0\nN3,A,P,100000,2000000,0\n") 1 ≡ Err (BufferShort 384)
unfolding opened
v00121 = refl

-- 00144-32-J-Y-half-buf1
v00144 : study_of (bytes "source,va_re,va_im,vb_re,vb_im,vc_re,vc_im,tol,sweeps\nS,200000,0,200000,0,200000,0,1,20\n\nfrom,to,phases,kind,p1,p2,p3,p4,p5,p6,p7,p8,p9,p10,p11,p12\nS,N1,ABC,Y,2,3,0,0,0,0,0,0,0,0,0,0\n\nnode,phase,kind,vn,p,q\nN1,A,Z,300000,0,3000000\n") 1 ≡ Err (BufferShort 301)
unfolding opened
v00144 = refl

-- 00165-33-V0-reg-ok-buf1
v00165 : study_of (bytes "source,va_re,va_im,vb_re,vb_im,vc_re,vc_im,tol,sweeps\nS,1800000,0,1800000,0,1800000,0,1,20\n\nfrom,to,phases,kind,p1,p2,p3,p4,p5,p6,p7,p8,p9,p10,p11,p12\nS,N,A,R,16,0,0,0,0,0,0,0,0,0,0,0\n\nnode,phase,kind,vn,p,q\n") 1 ≡ Err (BufferShort 273)
unfolding opened
v00165 = refl

-- 00193-33-masked-transformer-buf1
v00193 : study_of (bytes "source,va_re,va_im,vb_re,vb_im,vc_re,vc_im,tol,sweeps\nS,1000000,0,0,0,0,0,10,20\n\nfrom,to,phases,kind,p1,p2,p3,p4,p5,p6,p7,p8,p9,p10,p11,p12\nS,L,ABC,L,-500000,0,0,0,0,0,0,0,0,0,0,0\nL,N,ABC,Y,1,2,5000000,0,0,0,0,0,0,0,0,0\n\nnode,phase,kind,vn,p,q\nN,A,Z,2000000,200,0\n") 1 ≡ Err (BufferShort 312)
unfolding opened
v00193 = refl

-- 00216-tol-edge-1000-buf1
v00216 : study_of (bytes "source,va_re,va_im,vb_re,vb_im,vc_re,vc_im,tol,sweeps\nS,720000,0,-360000,-623538,-360000,623538,1000,1\n\nfrom,to,phases,kind,p1,p2,p3,p4,p5,p6,p7,p8,p9,p10,p11,p12\nS,N1,A,L,1000000,0,0,0,0,0,0,0,0,0,0,0\n\nnode,phase,kind,vn,p,q\nN1,A,P,720000,72000,0\n") 1 ≡ Err (BufferShort 311)
unfolding opened
v00216 = refl

-- 00267-tie-Y-buf1
v00267 : study_of (bytes "source,va_re,va_im,vb_re,vb_im,vc_re,vc_im,tol,sweeps\nS,1,-1,3,-3,5,-5,0,20\n\nfrom,to,phases,kind,p1,p2,p3,p4,p5,p6,p7,p8,p9,p10,p11,p12\nS,N,ABC,Y,2,1,0,0,0,0,0,0,0,0,0,0\n\nnode,phase,kind,vn,p,q\nN,A,Z,1,1,1\n") 1 ≡ Err (BufferShort 272)
unfolding opened
v00267 = refl

-- 00288-name-S-equals-word-buf1
v00288 : study_of (bytes "source,va_re,va_im,vb_re,vb_im,vc_re,vc_im,tol,sweeps\nA,720000,0,-360000,-623538,-360000,623538,1,20\n\nfrom,to,phases,kind,p1,p2,p3,p4,p5,p6,p7,p8,p9,p10,p11,p12\nA,L,A,L,0,0,0,0,0,0,0,0,0,0,0,0\nL,P,A,L,0,0,0,0,0,0,0,0,0,0,0,0\n\nnode,phase,kind,vn,p,q\nP,A,P,5,0,0\n") 1 ≡ Err (BufferShort 312)
unfolding opened
v00288 = refl

-- 01090-edgy-buf
v01090 : study_of (bytes "source,va_re,va_im,vb_re,vb_im,vc_re,vc_im,tol,sweeps\nS,-100000,0,-100000,0,-100000,0,50,10\n\nfrom,to,phases,kind,p1,p2,p3,p4,p5,p6,p7,p8,p9,p10,p11,p12\nS,N0,ABC,Y,3,2,0,0,0,0,0,0,0,0,0,0\n\nnode,phase,kind,vn,p,q\nN0,A,I,66667,266342,0\nN0,A,Z,66667,700561,3\nN0,A,I,66667,366429,0\n") 155 ≡ Err (BufferShort 314)
unfolding opened
v01090 = refl

-- S-1, 00086-vn-wye-0
v1-00086 : study_of (bytes "source,va_re,va_im,vb_re,vb_im,vc_re,vc_im,tol,sweeps\nS,720000,0,-360000,-623538,-360000,623538,1,20\n\nfrom,to,phases,kind,p1,p2,p3,p4,p5,p6,p7,p8,p9,p10,p11,p12\nS,N1,ABC,L,0,0,0,0,0,0,0,0,0,0,0,0\n\nnode,phase,kind,vn,p,q\nN1,A,Z,0,1,0\n") 1000000 ≡ Err (OutOfLimit 8)
unfolding opened
v1-00086 = refl

-- S-1, 00104-23-C-BC
v1-00104 : study_of (bytes "source,va_re,va_im,vb_re,vb_im,vc_re,vc_im,tol,sweeps\nS,720000,0,-360000,-623538,-360000,623538,1,20\n\nfrom,to,phases,kind,p1,p2,p3,p4,p5,p6,p7,p8,p9,p10,p11,p12\nS,N1,C,L,0,0,0,0,0,0,0,0,0,0,0,0\n\nnode,phase,kind,vn,p,q\nN1,BC,Z,720000,1,0\n") 1000000 ≡ Err (PhaseAbsent 8)
unfolding opened
v1-00104 = refl

-- S-1, 00270-rand
v1-00270 : study_of (bytes "source,va_re,va_im,vb_re,vb_im,vc_re,vc_im,tol,sweeps\nW,-63234,704085,653241,-302781,-588837,-414332,511,100\n\nfrom,to,phases,kind,p1,p2,p3,p4,p5,p6,p7,p8,p9,p10,p11,p12\nXKWI,S6,A,L,-100000000,0,0,0,0,0,0,0,0,0,0,0\nDHK8,EQRX,A,L,1,-2,0,0,0,0,0,0,0,0,0,0\nM08I,7,AC,L,6602002,4574798,0,0,2490885,1668857,0,0,0,0,3027569,5220803\nW,M08I,AC,L,-100000000,1,0,0,-14735,41188352,0,0,0,0,-100000000,1595975\nS6,ORX,A,L,17106400,60509728,0,0,0,0,0,0,0,0,0,0\n7,XKWI,AC,L,0,96415373,0,0,11558205,-1253345,0,0,0,0,-1,-100000000\nORX,DHK8,A,L,6719066,1930893,0,0,0,0,0,0,0,0,0,0\nEQRX,PVV97L39,A,L,100000000,80244067,0,0,0,0,0,0,0,0,0,0\n\nnode,phase,kind,vn,p,q\nM08I,A,Z,1,1,-588983\nDHK8,A,I,720000,25771,21751\nW,CA,P,2,-1086150,0\nXKWI,A,Z,86401,3000000,1\nDHK8,A,P,1,-2721546,3000000\nXKWI,CA,P,2163472,-1037419,3000000\nS6,A,P,720000,239,-39\nW,BC,Z,2,1,3000000\n") 1000000 ≡ Err (LoadBeyond 1)
unfolding opened
v1-00270 = refl

-- S-3, 00474-rand
v3-00474 : study_of (bytes "source,va_re,va_im,vb_re,vb_im,vc_re,vc_im,tol,sweeps\nUR,1197179,82239,-563876,-976662,-657708,1003703,0,22\n\nfrom,to,phases,kind,p1,p2,p3,p4,p5,p6,p7,p8,p9,p10,p11,p12\nUR,YG,ABC,D,17,1,1,-1,-13962334,-116,100000000,100000000,0,0,0,0\n\nnode,phase,kind,vn,p,q\nUR,B,P,1291765,-1,3000000\nYG,C,I,1447677,-3000000,-1802\nYG,A,I,2000000,843787,592935\nYG,AB,Z,415784,3,3\nYG,BC,I,389258,3449,162\n") 1000000 ≡ Err (VoltageBeyond 1)
unfolding opened
v3-00474 = refl

-- S-3, 00464-rand
v3-00464 : study_of (bytes "source,va_re,va_im,vb_re,vb_im,vc_re,vc_im,tol,sweeps\n4J5UV1WJ,1147052,352521,-218065,-1172369,-878818,817116,20,10\n\nfrom,to,phases,kind,p1,p2,p3,p4,p5,p6,p7,p8,p9,p10,p11,p12\n4J5UV1WJ,RMHS,ABC,D,4820,2783,22209514,73150486,97030163,26418274,25167411,94280144,0,0,0,0\n4J5UV1WJ,J5RQAMRE,B,L,0,0,0,0,0,0,1,0,0,0,0,0\n4J5UV1WJ,5Y,ABC,L,88535707,30185722,0,0,0,0,64706476,-77919463,9397574,31693980,39643873,21235990\nJ5RQAMRE,2,B,R,0,-6,0,0,0,0,0,0,0,0,0,0\n4J5UV1WJ,ZR,ABC,L,0,0,0,0,0,0,1,1,0,0,1,0\nZR,T3,ABC,Y,3582,1000,27978215,51557592,82199318,21114486,29876373,68142617,0,0,0,0\nRMHS,47S,ABC,L,78659545,74437498,0,0,13032480,26774266,74637669,95841325,11993318,23288885,57695581,-22182303\n5Y,YL0GOKQP,ABC,Y,12000,2400,61582882,98551214,95600187,69886427,58639510,62207407,0,0,0,0\n4J5UV1WJ,9KF,ABC,D,20785,2400,0,1,0,1,0,0,0,0,0,0\nJ5RQAMRE,IF,B,L,0,0,0,0,0,0,0,0,0,0,0,0\nYL0GOKQP,LU,ABC,D,5,1,80442021,70226839,68704114,38507221,75502844,44559024,0,0,0,0\nLU,0,ABC,L,0,1,0,0,0,0,1,0,0,0,0,-1\n5Y,N3,ABC,R,-13,-6,12,0,0,0,0,0,0,0,0,0\nJ5RQAMRE,XIODCI2W,B,L,0,0,0,0,0,0,48966952,71478398,0,0,0,0\nZR,V,ABC,L,1,0,0,0,0,0,0,0,0,0,0,0\nJ5RQAMRE,QEFJNV4N,B,R,0,-14,0,0,0,0,0,0,0,0,0,0\nV,N,ABC,D,129157,74569,79607867,85524258,70703402,91739213,26851764,45723991,0,0,0,0\nYL0GOKQP,VNE,AB,R,8,-8,0,0,0,0,0,0,0,0,0,0\nQEFJNV4N,TOBB,B,R,0,-13,0,0,0,0,0,0,0,0,0,0\nRMHS,DLG9I9SZ,ABC,D,41572,240,17263080,12398451,10562527,4740430,11774601,4082681,0,0,0,0\n\nnode,phase,kind,vn,p,q\nDLG9I9SZ,CA,P,29648,14,12\nIF,B,P,1009025,36458,132750\n") 1000000 ≡ Err (NotSettled 10)
unfolding opened
v3-00464 = refl

-- S-4, 00194-faults
v4-00194 : study_of (bytes "source,va_re,va_im,vb_re,vb_im,vc_re,vc_im,tol,sweeps\nS,1000000,0,-500000,-866000,-500000,866000,0,10\n\nfrom,to,phases,kind,p1,p2,p3,p4,p5,p6,p7,p8,p9,p10,p11,p12\nN0Q,N1,ABC,D,1657,1000,100000000,50637366,100000000,50637366,100000000,50637366,0,0,0,0\nS,N0,B,L,0,0,100000001,0,0,0,0,0,0,0,0,0\n\nnode,phase,kind,vn,p,q\nN1,A,P,1000000,164178,23761\nN1,B,I,1000000,164925,-17854\nN1,C,Z,1000000,160427,-42215\n") 1000000 ≡ Err (OutOfLimit 6)
unfolding opened
v4-00194 = refl

-- S-4, 00224-faults
v4-00224 : study_of (bytes "source,va_re,va_im,vb_re,vb_im,vc_re,vc_im,tol,sweeps\nS,0,2000000,0,0,0,0,1,5\n\nfrom,to,phases,kind,p1,p2,p3,p4,p5,p6,p7,p8,p9,p10,p11,p12\nS,N,AC,D,2,1,0,0,0,0,0,0,0,0,0,0\n\nnode,phase,kind,vn,p,q\nN,BC,Z,3464102,-65,-10\n") 1000000 ≡ Err (PhaseAbsent 5)
unfolding opened
v4-00224 = refl
