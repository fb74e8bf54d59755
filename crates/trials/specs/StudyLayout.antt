-- Vectors: feeders whose layout the study refuses. Assumes nothing.
use Rattle.std.specs.Prelude.{◌≡◌, refl, Err}
use Rattle.answers.specs.declared.Refusal.TheVariants.{Layout}
use Rattle.text.specs.Text.{bytes}
use Rattle.ladder.specs.Study.{study_of}
use Rattle.trials.specs.Opened.{opened}

-- 00371-ex-cut14
v00371 : study_of (bytes "source,va_re,v") 1000000 ≡ Err (Layout 1)
unfolding opened
v00371 = refl

-- 00386-ex-cut29
v00386 : study_of (bytes "source,va_re,va_im,vb_re,vb_i") 1000000 ≡ Err (Layout 1)
unfolding opened
v00386 = refl

-- 00401-ex-cut44
v00401 : study_of (bytes "source,va_re,va_im,vb_re,vb_im,vc_re,vc_im,t") 1000000 ≡ Err (Layout 1)
unfolding opened
v00401 = refl

-- 00416-ex-cut59
v00416 : study_of (bytes "source,va_re,va_im,vb_re,vb_im,vc_re,vc_im,tol,sweeps\nS,720") 1000000 ≡ Err (Layout 2)
unfolding opened
v00416 = refl

-- 00431-ex-cut74
v00431 : study_of (bytes "source,va_re,va_im,vb_re,vb_im,vc_re,vc_im,tol,sweeps\nS,720000,0,-360000,-") 1000000 ≡ Err (Layout 2)
unfolding opened
v00431 = refl

-- 00446-ex-cut89
v00446 : study_of (bytes "source,va_re,va_im,vb_re,vb_im,vc_re,vc_im,tol,sweeps\nS,720000,0,-360000,-623538,-360000,") 1000000 ≡ Err (Layout 2)
unfolding opened
v00446 = refl

-- 00461-ex-cut104
v00461 : study_of (bytes "source,va_re,va_im,vb_re,vb_im,vc_re,vc_im,tol,sweeps\nS,720000,0,-360000,-623538,-360000,623538,1,20\n\nfr") 1000000 ≡ Err (Layout 4)
unfolding opened
v00461 = refl

-- 00476-ex-cut119
v00476 : study_of (bytes "source,va_re,va_im,vb_re,vb_im,vc_re,vc_im,tol,sweeps\nS,720000,0,-360000,-623538,-360000,623538,1,20\n\nfrom,to,phases,ki") 1000000 ≡ Err (Layout 4)
unfolding opened
v00476 = refl

-- 00491-ex-cut134
v00491 : study_of (bytes "source,va_re,va_im,vb_re,vb_im,vc_re,vc_im,tol,sweeps\nS,720000,0,-360000,-623538,-360000,623538,1,20\n\nfrom,to,phases,kind,p1,p2,p3,p4,") 1000000 ≡ Err (Layout 4)
unfolding opened
v00491 = refl

-- 00506-ex-cut149
v00506 : study_of (bytes "source,va_re,va_im,vb_re,vb_im,vc_re,vc_im,tol,sweeps\nS,720000,0,-360000,-623538,-360000,623538,1,20\n\nfrom,to,phases,kind,p1,p2,p3,p4,p5,p6,p7,p8,p9,") 1000000 ≡ Err (Layout 4)
unfolding opened
v00506 = refl

-- 00521-ex-cut164
v00521 : study_of (bytes "source,va_re,va_im,vb_re,vb_im,vc_re,vc_im,tol,sweeps\nS,720000,0,-360000,-623538,-360000,623538,1,20\n\nfrom,to,phases,kind,p1,p2,p3,p4,p5,p6,p7,p8,p9,p10,p11,p12\nS,N") 1000000 ≡ Err (Layout 5)
unfolding opened
v00521 = refl

-- 00536-ex-cut179
v00536 : study_of (bytes "source,va_re,va_im,vb_re,vb_im,vc_re,vc_im,tol,sweeps\nS,720000,0,-360000,-623538,-360000,623538,1,20\n\nfrom,to,phases,kind,p1,p2,p3,p4,p5,p6,p7,p8,p9,p10,p11,p12\nS,N1,A,L,1000000,0") 1000000 ≡ Err (Layout 5)
unfolding opened
v00536 = refl

-- 00551-ex-cut194
v00551 : study_of (bytes "source,va_re,va_im,vb_re,vb_im,vc_re,vc_im,tol,sweeps\nS,720000,0,-360000,-623538,-360000,623538,1,20\n\nfrom,to,phases,kind,p1,p2,p3,p4,p5,p6,p7,p8,p9,p10,p11,p12\nS,N1,A,L,1000000,0,0,0,0,0,0,0,0,") 1000000 ≡ Err (Layout 5)
unfolding opened
v00551 = refl

-- 00566-ex-cut209
v00566 : study_of (bytes "source,va_re,va_im,vb_re,vb_im,vc_re,vc_im,tol,sweeps\nS,720000,0,-360000,-623538,-360000,623538,1,20\n\nfrom,to,phases,kind,p1,p2,p3,p4,p5,p6,p7,p8,p9,p10,p11,p12\nS,N1,A,L,1000000,0,0,0,0,0,0,0,0,0,0,0\n\nnode,pha") 1000000 ≡ Err (Layout 7)
unfolding opened
v00566 = refl

-- 00582-ex-cut225
v00582 : study_of (bytes "source,va_re,va_im,vb_re,vb_im,vc_re,vc_im,tol,sweeps\nS,720000,0,-360000,-623538,-360000,623538,1,20\n\nfrom,to,phases,kind,p1,p2,p3,p4,p5,p6,p7,p8,p9,p10,p11,p12\nS,N1,A,L,1000000,0,0,0,0,0,0,0,0,0,0,0\n\nnode,phase,kind,vn,p,q\nN") 1000000 ≡ Err (Layout 8)
unfolding opened
v00582 = refl

-- 00597-ex-cut240
v00597 : study_of (bytes "source,va_re,va_im,vb_re,vb_im,vc_re,vc_im,tol,sweeps\nS,720000,0,-360000,-623538,-360000,623538,1,20\n\nfrom,to,phases,kind,p1,p2,p3,p4,p5,p6,p7,p8,p9,p10,p11,p12\nS,N1,A,L,1000000,0,0,0,0,0,0,0,0,0,0,0\n\nnode,phase,kind,vn,p,q\nN1,A,P,720000,72") 1000000 ≡ Err (Layout 8)
unfolding opened
v00597 = refl

-- 00791-shape-q-'00'
v00791 : study_of (bytes "source,va_re,va_im,vb_re,vb_im,vc_re,vc_im,tol,sweeps\nS,720000,0,-360000,-623538,-360000,623538,1,20\n\nfrom,to,phases,kind,p1,p2,p3,p4,p5,p6,p7,p8,p9,p10,p11,p12\nS,N1,A,R,0,0,0,0,0,0,0,0,0,0,0,0\n\nnode,phase,kind,vn,p,q\nN1,A,P,720000,0,00\n") 1000000 ≡ Err (Layout 8)
unfolding opened
v00791 = refl

-- 00806-shape-q-'+1'
v00806 : study_of (bytes "source,va_re,va_im,vb_re,vb_im,vc_re,vc_im,tol,sweeps\nS,720000,0,-360000,-623538,-360000,623538,1,20\n\nfrom,to,phases,kind,p1,p2,p3,p4,p5,p6,p7,p8,p9,p10,p11,p12\nS,N1,A,R,0,0,0,0,0,0,0,0,0,0,0,0\n\nnode,phase,kind,vn,p,q\nN1,A,P,720000,0,+1\n") 1000000 ≡ Err (Layout 8)
unfolding opened
v00806 = refl

-- 00821-shape-q-' 1'
v00821 : study_of (bytes "source,va_re,va_im,vb_re,vb_im,vc_re,vc_im,tol,sweeps\nS,720000,0,-360000,-623538,-360000,623538,1,20\n\nfrom,to,phases,kind,p1,p2,p3,p4,p5,p6,p7,p8,p9,p10,p11,p12\nS,N1,A,R,0,0,0,0,0,0,0,0,0,0,0,0\n\nnode,phase,kind,vn,p,q\nN1,A,P,720000,0, 1\n") 1000000 ≡ Err (Layout 8)
unfolding opened
v00821 = refl

-- 00846-shape-q-'-9999999999999999999'
v00846 : study_of (bytes "source,va_re,va_im,vb_re,vb_im,vc_re,vc_im,tol,sweeps\nS,720000,0,-360000,-623538,-360000,623538,1,20\n\nfrom,to,phases,kind,p1,p2,p3,p4,p5,p6,p7,p8,p9,p10,p11,p12\nS,N1,A,R,0,0,0,0,0,0,0,0,0,0,0,0\n\nnode,phase,kind,vn,p,q\nN1,A,P,720000,0,-9999999999999999999\n") 1000000 ≡ Err (Layout 8)
unfolding opened
v00846 = refl

-- 00866-shape-q-'1\r'
v00866 : study_of (bytes "source,va_re,va_im,vb_re,vb_im,vc_re,vc_im,tol,sweeps\nS,720000,0,-360000,-623538,-360000,623538,1,20\n\nfrom,to,phases,kind,p1,p2,p3,p4,p5,p6,p7,p8,p9,p10,p11,p12\nS,N1,A,R,0,0,0,0,0,0,0,0,0,0,0,0\n\nnode,phase,kind,vn,p,q\nN1,A,P,720000,0,1\r\n") 1000000 ≡ Err (Layout 8)
unfolding opened
v00866 = refl

-- 00954-mangle-cut-cut
v00954 : study_of (bytes "") 1000000 ≡ Err (Layout 1)
unfolding opened
v00954 = refl

-- 01092-mangle-head
v01092 : study_of (bytes "source,va_re,va_im,vb_re,vb_im,vc_re,vc_im,tol,sweeps\nTC,720000,0,-441244,-568949,-350375,606867,0,1\n\nfrom,to,phases,kind,p1,p2,p3,p4,p5,p6,p7,p8,p9,p10,p11,p12 \nZ62,SQE,ABC,R,9,-14,0,0,0,0,0,0,0,0,0,0\nTC,IQNQ,ABC,L,62383779,-65146111,0,0,37716582,16566651,60515958,24770083,13836296,11803754,77787247,-99289367\nTC,7WFJ,AC,R,5,0,5,0,0,0,0,0,0,0,0,0\n2,L0A,C,L,0,0,0,0,0,0,0,0,0,0,1141352,-785433\nSQE,LM,ABC,L,137009,-249528,97135,-66563,94934,-86958,80476,189356,0,0,255558,284759\nTC,OF,ABC,D,8883,1000,21191863,83459818,21573168,58279602,92882572,71425086,0,0,0,0\nSQE,S4,ABC,Y,1000000,87345,46941807,90272912,76190510,75827247,35844115,76589200,0,0,0,0\nTC,Z62,ABC,Y,3,1,31235096,28277960,32219033,26563035,17655242,15051665,0,0,0,0\nL0A,EJYY,C,L,0,0,0,0,0,0,0,0,0,0,51343570,49598899\n2,KY3BL3QH,ABC,L,742991,525664,303898,96605,127127,-97757,241152,515743,76386,309140,204354,636140\nZ62,2,ABC,D,34641,1000,4641,12755,5561,12005,6942,7030,0,0,0,0\nL0A,VP,C,R,0,0,9,0,0,0,0,0,0,0,0,0\n\nnode,phase,kind,vn,p,q\n2,B,P,12321,1,0\nEJYY,C,I,12000,108,24\nSQE,A,I,237526,45810,-6151\n7WFJ,C,I,743226,-8378,1537\nSQE,A,I,237526,2,2\nVP,C,I,11603,3556,175\nLM,C,Z,237526,41109,47661\nZ62,B,P,262682,3722,25\nOF,B,Z,123832,6,3\nKY3BL3QH,A,P,12000,585,179\nSQE,A,P,237526,401,60\nKY3BL3QH,B,Z,13780,38,-3\n") 1000000 ≡ Err (Layout 4)
unfolding opened
v01092 = refl

-- S-1, 00096-word-N
v1-00096 : study_of (bytes "source,va_re,va_im,vb_re,vb_im,vc_re,vc_im,tol,sweeps\nS,720000,0,-360000,-623538,-360000,623538,1,20\n\nfrom,to,phases,kind,p1,p2,p3,p4,p5,p6,p7,p8,p9,p10,p11,p12\nS,N1,ABC,L,0,0,0,0,0,0,0,0,0,0,0,0\n\nnode,phase,kind,vn,p,q\nN1,N,Z,720000,1,0\n") 1000000 ≡ Err (Layout 8)
unfolding opened
v1-00096 = refl

-- S-3, 00432-mangled
v3-00432 : study_of (bytes "source,va_re,va_im,vb_re,vb_im,vc_re,vc_im,tol,sweeps\nS,720000,0,-360000,-623520,-360000,623520,0,10\n\nfrom,to,phases,kind,p1,p2,p3,p4,p5,p6,p7,p8,p9,p10,p11,p12\nN0,N1,ABC,Y,900,1000,-11954978,15320566,-11954978,15320566,-11954978,15320566,0,0,0,0\nS,N0,ABC,L,-5516327,1761313,-1379082,440328,0,0,-5516327,1761313,0,0,-5516327,1761313\nN1,N2,a,L,-14216561,8776641,-3554141,-999999999999999999,0,0,-14216561,8776641,0,0,-14216561,8776641\n\nnode,phase,kind,vn,p,q\nN2,CA,P,1247077,617695,-23879\nN2,BC,P,02000000,588629,-188767\nN2,C,P,720000,618084,-9416\nN1,C,Z,720000,0,-149014\n") 1000000 ≡ Err (Layout 7)
unfolding opened
v3-00432 = refl

-- S-4, 00133-mangled
v4-00133 : study_of (bytes "source,va_re,va_im,vb_re,vb_im,vc_re,vc_im,tol,sweeps\nS,0,0,1,0,0,-1333332,0,100\n\nfrom,to,phases,kind,p1,p2,p3,p4,p5,p6,p7,p8,p9,p10,p11,p12\nS,N,A,R,0,0,-16,0,0,0,0,0,0,0,0,0\n\nnode,phase,kind,vn,p,q\nN,C,Z,2000000,44,45886650110989845") 1000000 ≡ Err (Layout 8)
unfolding opened
v4-00133 = refl

-- S-4, 00206-faults
v4-00206 : study_of (bytes "source,va_re,va_im,vb_re,vb_im,vc_re,vc_im,tol,sweeps\nB,-5015,10902,12159,-1763,-6934,-9794,20,20\nB,-5015,10902,12159,-1763,-6934,-9794,20,20\n\nfrom,to,phases,kind,p1,p2,p3,p4,p5,p6,p7,p8,p9,p10,p11,p12\n3J,EPJA,ABC,L,0,0,0,0,0,0,-1,1,0,0,-1,1\nHRB,C,ABC,L,70002942,-70975121,24058800,15549256,37179950,29530101,92079263,20634106,16623906,11363279,68995567,57371356\nB,HRB,ABC,Y,40,2400,0,0,1,0,1,1,0,0,0,0\nB,3J,ABC,L,1,1,0,0,0,0,1,0,0,0,0,-1\nHRB,CDU8X155,ABC,R,-14,9,2,0,0,0,0,0,0,0,10001,0\nHRB,ZJ6,BC,L,0,0,0,0,0,0,87610072,-51162135,8601776,-34138252,77522402,28955388\nHRB,D8CW,A,L,0,0,0,1,0,0,0,0,0,0,0,0\nHRB,253,ABC,L,46958999,24910415,0,0,32004083,32596260,45590409,-35822031,0,0,21131147,71157633\nEPJA,CL4,C,L,0,0,0,0,0,0,0,0,0,0,1,0\nEPJA,LZ,ABC,Y,1000,1000,95013727,57206590,34679537,40607619,47630659,88014446,0,0,0,0\nKDAL,B58VPIT8,C,L,0,0,0,0,0,0,0,0,0,0,64892586,87622013\nCL4,KDAL,C,L,0,0,0,0,0,0,0,0,0,0,67029305,25148624\n\nnode,phase,kind,vn,p,q\nEPJA,BC,I,18834,9,4\nCL4,C,P,25160,8,4\n") 1000000 ≡ Err (Layout 3)
unfolding opened
v4-00206 = refl
