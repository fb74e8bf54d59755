-- Vectors: studies of regulators that set their taps, and of those with fixed taps. Assumes nothing.
use Rattle.std.specs.Prelude.{◌≡◌, refl, Ok, Err}
use Rattle.answers.specs.declared.Refusal.TheVariants.{OutOfLimit, PhaseAbsent, NotZero, CurrentBeyond, NotSettled, TapsMoving, BufferShort}
use Rattle.text.specs.Text.{bytes}
use Rattle.ladder.specs.Study.{fitted, study_of}
use Rattle.trials.specs.Opened.{opened}

-- S-5, 00487-table-none
v5-00487 : fitted (bytes "source,va_re,va_im,vb_re,vb_im,vc_re,vc_im,tol,sweeps\nS,720000,0,-360000,-623538,-360000,623538,1,20\n\nfrom,to,phases,kind,p1,p2,p3,p4,p5,p6,p7,p8,p9,p10,p11,p12\nS,N1,A,L,1000000,0,0,0,0,0,0,0,0,0,0,0\n\nnode,phase,kind,vn,p,q\nN1,A,P,720000,72000,0\n") 1000000 ≡ Ok (record { text = bytes "node,va_re,va_im,vb_re,vb_im,vc_re,vc_im\nS,720000,0,-360000,-623538,-360000,623538\nN1,719000,0,0,0,0,0\n\nfrom,to,ia_re,ia_im,ib_re,ib_im,ic_re,ic_im,loss_p,loss_q\nS,N1,10014,0,0,0,0,0,10024014,0\n\nsweeps,source_p,source_q,drawn_p,drawn_q,lost_p,lost_q\n2,7210080000,0,7200066000,0,10024014,0\n\nto,tap_a,tap_b,tap_c\n"; sweeps = 2 })
unfolding opened
v5-00487 = refl

-- S-5, 00494-table-fixed
v5-00494 : fitted (bytes "source,va_re,va_im,vb_re,vb_im,vc_re,vc_im,tol,sweeps\nS,720000,0,-360000,-623538,-360000,623538,1,20\n\nfrom,to,phases,kind,p1,p2,p3,p4,p5,p6,p7,p8,p9,p10,p11,p12\nS,N1,AB,R,5,-3,0,0,0,0,0,0,0,0,0,0\n\nnode,phase,kind,vn,p,q\nN1,A,P,720000,72000,0\n") 1000000 ≡ Ok (record { text = bytes "node,va_re,va_im,vb_re,vb_im,vc_re,vc_im\nS,720000,0,-360000,-623538,-360000,623538\nN1,743226,0,-353374,-612062,0,0\n\nfrom,to,ia_re,ia_im,ib_re,ib_im,ic_re,ic_im,loss_p,loss_q\nS,N1,9687,0,0,0,0,0,0,0\n\nsweeps,source_p,source_q,drawn_p,drawn_q,lost_p,lost_q\n1,7199280000,0,7199630262,0,0,0\n\nto,tap_a,tap_b,tap_c\nN1,5,-3,0\n"; sweeps = 1 })
unfolding opened
v5-00494 = refl

-- S-5, 00501-table-level
v5-00501 : fitted (bytes "source,va_re,va_im,vb_re,vb_im,vc_re,vc_im,tol,sweeps\nS,720000,0,-360000,-623538,-360000,623538,1,20\n\nfrom,to,phases,kind,p1,p2,p3,p4,p5,p6,p7,p8,p9,p10,p11,p12\nS,N1,A,R,0,0,0,12000,300,60,100,0,0,0,0,0\n\nnode,phase,kind,vn,p,q\nN1,A,P,720000,5000,0\n") 1000000 ≡ Ok (record { text = bytes "node,va_re,va_im,vb_re,vb_im,vc_re,vc_im\nS,720000,0,-360000,-623538,-360000,623538\nN1,720000,0,0,0,0,0\n\nfrom,to,ia_re,ia_im,ib_re,ib_im,ic_re,ic_im,loss_p,loss_q\nS,N1,694,0,0,0,0,0,0,0\n\nsweeps,source_p,source_q,drawn_p,drawn_q,lost_p,lost_q\n1,499680000,0,499680000,0,0,0\n\nto,tap_a,tap_b,tap_c\nN1,0,0,0\n"; sweeps = 1 })
unfolding opened
v5-00501 = refl

-- S-5, 00507-table-mixed
v5-00507 : fitted (bytes "source,va_re,va_im,vb_re,vb_im,vc_re,vc_im,tol,sweeps\nS,720000,0,-360000,-623538,-360000,623538,1,20\n\nfrom,to,phases,kind,p1,p2,p3,p4,p5,p6,p7,p8,p9,p10,p11,p12\nS,N1,A,R,0,0,0,12000,300,60,100,0,0,0,0,0\nN1,N2,A,R,4,0,0,0,0,0,0,0,0,0,0,0\n\nnode,phase,kind,vn,p,q\n") 1000000 ≡ Ok (record { text = bytes "node,va_re,va_im,vb_re,vb_im,vc_re,vc_im\nS,720000,0,-360000,-623538,-360000,623538\nN1,720000,0,0,0,0,0\nN2,738462,0,0,0,0,0\n\nfrom,to,ia_re,ia_im,ib_re,ib_im,ic_re,ic_im,loss_p,loss_q\nS,N1,0,0,0,0,0,0,0,0\nN1,N2,0,0,0,0,0,0,0,0\n\nsweeps,source_p,source_q,drawn_p,drawn_q,lost_p,lost_q\n1,0,0,0,0,0,0\n\nto,tap_a,tap_b,tap_c\nN1,0,0,0\nN2,4,0,0\n"; sweeps = 1 })
unfolding opened
v5-00507 = refl

-- S-5, 00149-edge-12001-2
v5-00149 : fitted (bytes "source,va_re,va_im,vb_re,vb_im,vc_re,vc_im,tol,sweeps\nS,720000,0,-360000,-623538,-360000,623538,1,20\n\nfrom,to,phases,kind,p1,p2,p3,p4,p5,p6,p7,p8,p9,p10,p11,p12\nS,N1,A,R,0,0,0,12001,2,60,100,0,0,0,0,0\n\nnode,phase,kind,vn,p,q\n") 1000000 ≡ Ok (record { text = bytes "node,va_re,va_im,vb_re,vb_im,vc_re,vc_im\nS,720000,0,-360000,-623538,-360000,623538\nN1,720000,0,0,0,0,0\n\nfrom,to,ia_re,ia_im,ib_re,ib_im,ic_re,ic_im,loss_p,loss_q\nS,N1,0,0,0,0,0,0,0,0\n\nsweeps,source_p,source_q,drawn_p,drawn_q,lost_p,lost_q\n1,0,0,0,0,0,0\n\nto,tap_a,tap_b,tap_c\nN1,0,0,0\n"; sweeps = 1 })
unfolding opened
v5-00149 = refl

-- S-5, 00153-edge-12001-3
v5-00153 : fitted (bytes "source,va_re,va_im,vb_re,vb_im,vc_re,vc_im,tol,sweeps\nS,720000,0,-360000,-623538,-360000,623538,1,20\n\nfrom,to,phases,kind,p1,p2,p3,p4,p5,p6,p7,p8,p9,p10,p11,p12\nS,N1,A,R,0,0,0,12001,3,60,100,0,0,0,0,0\n\nnode,phase,kind,vn,p,q\n") 1000000 ≡ Ok (record { text = bytes "node,va_re,va_im,vb_re,vb_im,vc_re,vc_im\nS,720000,0,-360000,-623538,-360000,623538\nN1,720000,0,0,0,0,0\n\nfrom,to,ia_re,ia_im,ib_re,ib_im,ic_re,ic_im,loss_p,loss_q\nS,N1,0,0,0,0,0,0,0,0\n\nsweeps,source_p,source_q,drawn_p,drawn_q,lost_p,lost_q\n1,0,0,0,0,0,0\n\nto,tap_a,tap_b,tap_c\nN1,0,0,0\n"; sweeps = 1 })
unfolding opened
v5-00153 = refl

-- S-5, 00156-edge-11999-2
v5-00156 : fitted (bytes "source,va_re,va_im,vb_re,vb_im,vc_re,vc_im,tol,sweeps\nS,720000,0,-360000,-623538,-360000,623538,1,20\n\nfrom,to,phases,kind,p1,p2,p3,p4,p5,p6,p7,p8,p9,p10,p11,p12\nS,N1,A,R,0,0,0,11999,2,60,100,0,0,0,0,0\n\nnode,phase,kind,vn,p,q\n") 1000000 ≡ Ok (record { text = bytes "node,va_re,va_im,vb_re,vb_im,vc_re,vc_im\nS,720000,0,-360000,-623538,-360000,623538\nN1,720000,0,0,0,0,0\n\nfrom,to,ia_re,ia_im,ib_re,ib_im,ic_re,ic_im,loss_p,loss_q\nS,N1,0,0,0,0,0,0,0,0\n\nsweeps,source_p,source_q,drawn_p,drawn_q,lost_p,lost_q\n1,0,0,0,0,0,0\n\nto,tap_a,tap_b,tap_c\nN1,0,0,0\n"; sweeps = 1 })
unfolding opened
v5-00156 = refl

-- S-5, 00163-edge-12100-200
v5-00163 : fitted (bytes "source,va_re,va_im,vb_re,vb_im,vc_re,vc_im,tol,sweeps\nS,720000,0,-360000,-623538,-360000,623538,1,20\n\nfrom,to,phases,kind,p1,p2,p3,p4,p5,p6,p7,p8,p9,p10,p11,p12\nS,N1,A,R,0,0,0,12100,200,60,100,0,0,0,0,0\n\nnode,phase,kind,vn,p,q\n") 1000000 ≡ Ok (record { text = bytes "node,va_re,va_im,vb_re,vb_im,vc_re,vc_im\nS,720000,0,-360000,-623538,-360000,623538\nN1,720000,0,0,0,0,0\n\nfrom,to,ia_re,ia_im,ib_re,ib_im,ic_re,ic_im,loss_p,loss_q\nS,N1,0,0,0,0,0,0,0,0\n\nsweeps,source_p,source_q,drawn_p,drawn_q,lost_p,lost_q\n1,0,0,0,0,0,0\n\nto,tap_a,tap_b,tap_c\nN1,0,0,0\n"; sweeps = 1 })
unfolding opened
v5-00163 = refl

-- S-5, 00172-edge-11900-199
v5-00172 : fitted (bytes "source,va_re,va_im,vb_re,vb_im,vc_re,vc_im,tol,sweeps\nS,720000,0,-360000,-623538,-360000,623538,1,20\n\nfrom,to,phases,kind,p1,p2,p3,p4,p5,p6,p7,p8,p9,p10,p11,p12\nS,N1,A,R,0,0,0,11900,199,60,100,0,0,0,0,0\n\nnode,phase,kind,vn,p,q\n") 1000000 ≡ Ok (record { text = bytes "node,va_re,va_im,vb_re,vb_im,vc_re,vc_im\nS,720000,0,-360000,-623538,-360000,623538\nN1,715528,0,0,0,0,0\n\nfrom,to,ia_re,ia_im,ib_re,ib_im,ic_re,ic_im,loss_p,loss_q\nS,N1,0,0,0,0,0,0,0,0\n\nsweeps,source_p,source_q,drawn_p,drawn_q,lost_p,lost_q\n1,0,0,0,0,0,0\n\nto,tap_a,tap_b,tap_c\nN1,-1,0,0\n"; sweeps = 1 })
unfolding opened
v5-00172 = refl

-- S-5, 00175-bracket-negative
v5-00175 : fitted (bytes "source,va_re,va_im,vb_re,vb_im,vc_re,vc_im,tol,sweeps\nS,720000,0,-360000,-623538,-360000,623538,1,20\n\nfrom,to,phases,kind,p1,p2,p3,p4,p5,p6,p7,p8,p9,p10,p11,p12\nS,N1,A,R,0,0,0,5000,20000,60,100,0,0,0,0,0\n\nnode,phase,kind,vn,p,q\n") 1000000 ≡ Ok (record { text = bytes "node,va_re,va_im,vb_re,vb_im,vc_re,vc_im\nS,720000,0,-360000,-623538,-360000,623538\nN1,720000,0,0,0,0,0\n\nfrom,to,ia_re,ia_im,ib_re,ib_im,ic_re,ic_im,loss_p,loss_q\nS,N1,0,0,0,0,0,0,0,0\n\nsweeps,source_p,source_q,drawn_p,drawn_q,lost_p,lost_q\n1,0,0,0,0,0,0\n\nto,tap_a,tap_b,tap_c\nN1,0,0,0\n"; sweeps = 1 })
unfolding opened
v5-00175 = refl

-- S-5, 00184-bracket-minus-1
v5-00184 : fitted (bytes "source,va_re,va_im,vb_re,vb_im,vc_re,vc_im,tol,sweeps\nS,1,0,1,0,1,0,1,20\n\nfrom,to,phases,kind,p1,p2,p3,p4,p5,p6,p7,p8,p9,p10,p11,p12\nS,N1,A,R,0,0,0,1,3,10000,100,0,0,0,0,0\n\nnode,phase,kind,vn,p,q\n") 1000000 ≡ Ok (record { text = bytes "node,va_re,va_im,vb_re,vb_im,vc_re,vc_im\nS,1,0,1,0,1,0\nN1,1,0,0,0,0,0\n\nfrom,to,ia_re,ia_im,ib_re,ib_im,ic_re,ic_im,loss_p,loss_q\nS,N1,0,0,0,0,0,0,0,0\n\nsweeps,source_p,source_q,drawn_p,drawn_q,lost_p,lost_q\n1,0,0,0,0,0,0\n\nto,tap_a,tap_b,tap_c\nN1,0,0,0\n"; sweeps = 1 })
unfolding opened
v5-00184 = refl

-- S-5, 00178-bracket-zero
v5-00178 : fitted (bytes "source,va_re,va_im,vb_re,vb_im,vc_re,vc_im,tol,sweeps\nS,720000,0,-360000,-623538,-360000,623538,1,20\n\nfrom,to,phases,kind,p1,p2,p3,p4,p5,p6,p7,p8,p9,p10,p11,p12\nS,N1,A,R,0,0,0,10000,20000,1000,100,0,0,0,0,0\n\nnode,phase,kind,vn,p,q\n") 1000000 ≡ Ok (record { text = bytes "node,va_re,va_im,vb_re,vb_im,vc_re,vc_im\nS,720000,0,-360000,-623538,-360000,623538\nN1,720000,0,0,0,0,0\n\nfrom,to,ia_re,ia_im,ib_re,ib_im,ic_re,ic_im,loss_p,loss_q\nS,N1,0,0,0,0,0,0,0,0\n\nsweeps,source_p,source_q,drawn_p,drawn_q,lost_p,lost_q\n1,0,0,0,0,0,0\n\nto,tap_a,tap_b,tap_c\nN1,0,0,0\n"; sweeps = 1 })
unfolding opened
v5-00178 = refl

-- S-5, 00190-zero-voltage-level1
v5-00190 : fitted (bytes "source,va_re,va_im,vb_re,vb_im,vc_re,vc_im,tol,sweeps\nS,0,0,0,0,0,0,1,20\n\nfrom,to,phases,kind,p1,p2,p3,p4,p5,p6,p7,p8,p9,p10,p11,p12\nS,N1,A,R,0,0,0,1,0,60,100,0,0,0,0,0\n\nnode,phase,kind,vn,p,q\n") 1000000 ≡ Ok (record { text = bytes "node,va_re,va_im,vb_re,vb_im,vc_re,vc_im\nS,0,0,0,0,0,0\nN1,0,0,0,0,0,0\n\nfrom,to,ia_re,ia_im,ib_re,ib_im,ic_re,ic_im,loss_p,loss_q\nS,N1,0,0,0,0,0,0,0,0\n\nsweeps,source_p,source_q,drawn_p,drawn_q,lost_p,lost_q\n1,0,0,0,0,0,0\n\nto,tap_a,tap_b,tap_c\nN1,16,0,0\n"; sweeps = 1 })
unfolding opened
v5-00190 = refl

-- S-5, 00230-up-from-16
v5-00230 : fitted (bytes "source,va_re,va_im,vb_re,vb_im,vc_re,vc_im,tol,sweeps\nS,720000,0,-360000,-623538,-360000,623538,1,20\n\nfrom,to,phases,kind,p1,p2,p3,p4,p5,p6,p7,p8,p9,p10,p11,p12\nS,N1,A,R,16,0,0,20000,0,60,100,0,0,0,0,0\n\nnode,phase,kind,vn,p,q\n") 1000000 ≡ Ok (record { text = bytes "node,va_re,va_im,vb_re,vb_im,vc_re,vc_im\nS,720000,0,-360000,-623538,-360000,623538\nN1,800000,0,0,0,0,0\n\nfrom,to,ia_re,ia_im,ib_re,ib_im,ic_re,ic_im,loss_p,loss_q\nS,N1,0,0,0,0,0,0,0,0\n\nsweeps,source_p,source_q,drawn_p,drawn_q,lost_p,lost_q\n1,0,0,0,0,0,0\n\nto,tap_a,tap_b,tap_c\nN1,16,0,0\n"; sweeps = 1 })
unfolding opened
v5-00230 = refl

-- S-5, 00197-down-from--16
v5-00197 : fitted (bytes "source,va_re,va_im,vb_re,vb_im,vc_re,vc_im,tol,sweeps\nS,720000,0,-360000,-623538,-360000,623538,1,20\n\nfrom,to,phases,kind,p1,p2,p3,p4,p5,p6,p7,p8,p9,p10,p11,p12\nS,N1,A,R,-16,0,0,1,0,60,100,0,0,0,0,0\n\nnode,phase,kind,vn,p,q\n") 1000000 ≡ Ok (record { text = bytes "node,va_re,va_im,vb_re,vb_im,vc_re,vc_im\nS,720000,0,-360000,-623538,-360000,623538\nN1,654545,0,0,0,0,0\n\nfrom,to,ia_re,ia_im,ib_re,ib_im,ic_re,ic_im,loss_p,loss_q\nS,N1,0,0,0,0,0,0,0,0\n\nsweeps,source_p,source_q,drawn_p,drawn_q,lost_p,lost_q\n1,0,0,0,0,0,0\n\nto,tap_a,tap_b,tap_c\nN1,-16,0,0\n"; sweeps = 1 })
unfolding opened
v5-00197 = refl

-- S-5, 00246-rounds-from-16-to-15
v5-00246 : fitted (bytes "source,va_re,va_im,vb_re,vb_im,vc_re,vc_im,tol,sweeps\nS,720000,0,-360000,-623538,-360000,623538,1,20\n\nfrom,to,phases,kind,p1,p2,p3,p4,p5,p6,p7,p8,p9,p10,p11,p12\nS,N1,A,R,-16,0,0,13241,60,60,100,0,0,0,0,0\n\nnode,phase,kind,vn,p,q\n") 1000000 ≡ Ok (record { text = bytes "node,va_re,va_im,vb_re,vb_im,vc_re,vc_im\nS,720000,0,-360000,-623538,-360000,623538\nN1,794483,0,0,0,0,0\n\nfrom,to,ia_re,ia_im,ib_re,ib_im,ic_re,ic_im,loss_p,loss_q\nS,N1,0,0,0,0,0,0,0,0\n\nsweeps,source_p,source_q,drawn_p,drawn_q,lost_p,lost_q\n1,0,0,0,0,0,0\n\nto,tap_a,tap_b,tap_c\nN1,15,0,0\n"; sweeps = 1 })
unfolding opened
v5-00246 = refl

-- S-5, 00253-rounds-down-to--16
v5-00253 : study_of (bytes "source,va_re,va_im,vb_re,vb_im,vc_re,vc_im,tol,sweeps\nS,720000,0,-360000,-623538,-360000,623538,1,20\n\nfrom,to,phases,kind,p1,p2,p3,p4,p5,p6,p7,p8,p9,p10,p11,p12\nS,N1,A,R,16,0,0,10909,60,60,100,0,0,0,0,0\n\nnode,phase,kind,vn,p,q\n") 1000000 ≡ Err (TapsMoving 32)
unfolding opened
v5-00253 = refl

-- S-5, 00663-comp-1000000-0-1
v5-00663 : fitted (bytes "source,va_re,va_im,vb_re,vb_im,vc_re,vc_im,tol,sweeps\nS,720000,0,-360000,-623538,-360000,623538,1,20\n\nfrom,to,phases,kind,p1,p2,p3,p4,p5,p6,p7,p8,p9,p10,p11,p12\nS,N1,A,R,0,0,0,12000,300,60,1,1000000,0,0,0,0\n\nnode,phase,kind,vn,p,q\nN1,A,P,720000,72000,30000\n") 1000000 ≡ Ok (record { text = bytes "node,va_re,va_im,vb_re,vb_im,vc_re,vc_im\nS,720000,0,-360000,-623538,-360000,623538\nN1,768000,0,0,0,0,0\n\nfrom,to,ia_re,ia_im,ib_re,ib_im,ic_re,ic_im,loss_p,loss_q\nS,N1,9375,-3906,0,0,0,0,0,0\n\nsweeps,source_p,source_q,drawn_p,drawn_q,lost_p,lost_q\n1,7200000000,2999520000,7200000000,2999808000,0,0\n\nto,tap_a,tap_b,tap_c\nN1,10,0,0\n"; sweeps = 1 })
unfolding opened
v5-00663 = refl

-- S-5, 00681-comp-0-1000000-1
v5-00681 : fitted (bytes "source,va_re,va_im,vb_re,vb_im,vc_re,vc_im,tol,sweeps\nS,720000,0,-360000,-623538,-360000,623538,1,20\n\nfrom,to,phases,kind,p1,p2,p3,p4,p5,p6,p7,p8,p9,p10,p11,p12\nS,N1,A,R,0,0,0,12000,300,60,1,0,1000000,0,0,0\n\nnode,phase,kind,vn,p,q\nN1,A,P,720000,72000,30000\n") 1000000 ≡ Ok (record { text = bytes "node,va_re,va_im,vb_re,vb_im,vc_re,vc_im\nS,720000,0,-360000,-623538,-360000,623538\nN1,733758,0,0,0,0,0\n\nfrom,to,ia_re,ia_im,ib_re,ib_im,ic_re,ic_im,loss_p,loss_q\nS,N1,9812,-4089,0,0,0,0,0,0\n\nsweeps,source_p,source_q,drawn_p,drawn_q,lost_p,lost_q\n1,7199280000,3000240000,7199633496,3000336462,0,0\n\nto,tap_a,tap_b,tap_c\nN1,3,0,0\n"; sweeps = 1 })
unfolding opened
v5-00681 = refl

-- S-5, 00717-relay-tie-V
v5-00717 : fitted (bytes "source,va_re,va_im,vb_re,vb_im,vc_re,vc_im,tol,sweeps\nS,5,0,5,0,5,0,1,20\n\nfrom,to,phases,kind,p1,p2,p3,p4,p5,p6,p7,p8,p9,p10,p11,p12\nS,N1,A,R,0,0,0,3,0,2,1,0,0,0,0,0\n\nnode,phase,kind,vn,p,q\n") 1000000 ≡ Ok (record { text = bytes "node,va_re,va_im,vb_re,vb_im,vc_re,vc_im\nS,5,0,5,0,5,0\nN1,5,0,0,0,0,0\n\nfrom,to,ia_re,ia_im,ib_re,ib_im,ic_re,ic_im,loss_p,loss_q\nS,N1,0,0,0,0,0,0,0,0\n\nsweeps,source_p,source_q,drawn_p,drawn_q,lost_p,lost_q\n1,0,0,0,0,0,0\n\nto,tap_a,tap_b,tap_c\nN1,0,0,0\n"; sweeps = 1 })
unfolding opened
v5-00717 = refl

-- S-5, 00720-relay-tie-V-neg
v5-00720 : fitted (bytes "source,va_re,va_im,vb_re,vb_im,vc_re,vc_im,tol,sweeps\nS,-5,0,-5,0,-5,0,1,20\n\nfrom,to,phases,kind,p1,p2,p3,p4,p5,p6,p7,p8,p9,p10,p11,p12\nS,N1,A,R,0,0,0,3,0,2,1,0,0,0,0,0\n\nnode,phase,kind,vn,p,q\n") 1000000 ≡ Ok (record { text = bytes "node,va_re,va_im,vb_re,vb_im,vc_re,vc_im\nS,-5,0,-5,0,-5,0\nN1,-5,0,0,0,0,0\n\nfrom,to,ia_re,ia_im,ib_re,ib_im,ic_re,ic_im,loss_p,loss_q\nS,N1,0,0,0,0,0,0,0,0\n\nsweeps,source_p,source_q,drawn_p,drawn_q,lost_p,lost_q\n1,0,0,0,0,0,0\n\nto,tap_a,tap_b,tap_c\nN1,0,0,0\n"; sweeps = 1 })
unfolding opened
v5-00720 = refl

-- S-5, 00537-later-32-J
v5-00537 : study_of (bytes "source,va_re,va_im,vb_re,vb_im,vc_re,vc_im,tol,sweeps\nS,500000,0,500000,0,500000,0,1,20\n\nfrom,to,phases,kind,p1,p2,p3,p4,p5,p6,p7,p8,p9,p10,p11,p12\nS,N1,A,R,0,0,0,20000,0,60,100,0,0,0,0,0\n\nnode,phase,kind,vn,p,q\nN1,A,Z,100000,350000,0\n") 1000000 ≡ Err (CurrentBeyond 1)
unfolding opened
v5-00537 = refl

-- S-5, 00546-later-34-5
v5-00546 : study_of (bytes "source,va_re,va_im,vb_re,vb_im,vc_re,vc_im,tol,sweeps\nS,720000,0,-360000,-623538,-360000,623538,0,5\n\nfrom,to,phases,kind,p1,p2,p3,p4,p5,p6,p7,p8,p9,p10,p11,p12\nS,N1,A,R,-10,0,0,12300,100,60,1,0,0,0,0,0\nN1,N2,A,L,8000000,3000000,0,0,0,0,0,0,0,0,0,0\n\nnode,phase,kind,vn,p,q\nN2,A,I,720000,90000,20000\nN2,A,Z,720000,90000,20000\n") 1000000 ≡ Err (NotSettled 5)
unfolding opened
v5-00546 = refl

-- S-5, 00543-later-34-down-4
v5-00543 : fitted (bytes "source,va_re,va_im,vb_re,vb_im,vc_re,vc_im,tol,sweeps\nS,720000,0,-360000,-623538,-360000,623538,0,4\n\nfrom,to,phases,kind,p1,p2,p3,p4,p5,p6,p7,p8,p9,p10,p11,p12\nS,N1,A,R,12,0,0,10000,100,60,1,0,0,0,0,0\nN1,N2,A,L,6000000,3000000,0,0,0,0,0,0,0,0,0,0\n\nnode,phase,kind,vn,p,q\nN2,A,P,720000,100000,20000\n") 1000000 ≡ Ok (record { text = bytes "node,va_re,va_im,vb_re,vb_im,vc_re,vc_im\nS,720000,0,-360000,-623538,-360000,623538\nN1,654545,0,0,0,0,0\nN2,644290,-2750,0,0,0,0\n\nfrom,to,ia_re,ia_im,ib_re,ib_im,ic_re,ic_im,loss_p,loss_q\nS,N1,15507,-3170,0,0,0,0,0,0\nN1,N2,15507,-3170,0,0,0,0,150306785,75152600\n\nsweeps,source_p,source_q,drawn_p,drawn_q,lost_p,lost_q\n4,10149840000,2075040000,9999722530,1999755050,150306785,75152600\n\nto,tap_a,tap_b,tap_c\nN1,-16,0,0\n"; sweeps = 4 })
unfolding opened
v5-00543 = refl

-- S-5, 00256-35-before-40
v5-00256 : study_of (bytes "source,va_re,va_im,vb_re,vb_im,vc_re,vc_im,tol,sweeps\nS,720000,0,-360000,-623538,-360000,623538,1,20\n\nfrom,to,phases,kind,p1,p2,p3,p4,p5,p6,p7,p8,p9,p10,p11,p12\nS,N1,A,R,0,0,0,12050,0,60,100,0,0,0,0,0\n\nnode,phase,kind,vn,p,q\n") 0 ≡ Err (TapsMoving 32)
unfolding opened
v5-00256 = refl

-- S-5, 00034-k004s5-buf763
v5-00034 : study_of (bytes "source,va_re,va_im,vb_re,vb_im,vc_re,vc_im,tol,sweeps\nN1,719956,0,-359978,-623500,-359978,623500,1,40\n\nfrom,to,phases,kind,p1,p2,p3,p4,p5,p6,p7,p8,p9,p10,p11,p12\nN1,N2,ABC,L,141400,535300,36100,322500,36100,257200,141400,535300,36100,295500,141400,535300\nN2,N3R,ABC,D,12470,2400,28800,172800,28800,172800,28800,172800,0,0,0,0\nN3R,N3,ABC,R,0,0,0,12100,200,20,200,1460000,2840000,0,0,0\nN3,N4,ABC,L,190700,503500,60700,230200,59800,175100,193900,488500,61400,193100,192100,497000\n\nnode,phase,kind,vn,p,q\nN4,A,P,240000,637500,395087\nN4,B,P,240000,900000,435890\nN4,C,P,240000,1187500,390312\n") 763 ≡ Err (BufferShort 764)
unfolding opened
v5-00034 = refl

-- S-5, 00035-k004s5-buf764
v5-00035 : fitted (bytes "source,va_re,va_im,vb_re,vb_im,vc_re,vc_im,tol,sweeps\nN1,719956,0,-359978,-623500,-359978,623500,1,40\n\nfrom,to,phases,kind,p1,p2,p3,p4,p5,p6,p7,p8,p9,p10,p11,p12\nN1,N2,ABC,L,141400,535300,36100,322500,36100,257200,141400,535300,36100,295500,141400,535300\nN2,N3R,ABC,D,12470,2400,28800,172800,28800,172800,28800,172800,0,0,0,0\nN3R,N3,ABC,R,0,0,0,12100,200,20,200,1460000,2840000,0,0,0\nN3,N4,ABC,L,190700,503500,60700,230200,59800,175100,193900,488500,61400,193100,192100,497000\n\nnode,phase,kind,vn,p,q\nN4,A,P,240000,637500,395087\nN4,B,P,240000,900000,435890\nN4,C,P,240000,1187500,390312\n") 764 ≡ Ok (record { text = bytes "node,va_re,va_im,vb_re,vb_im,vc_re,vc_im\nN1,719956,0,-359978,-623500,-359978,623500\nN2,716561,-1754,-361131,-619621,-356228,621920\nN3R,200969,-121711,-206237,-111118,9087,233494\nN3,212947,-128965,-221463,-119321,9824,252426\nN4,205721,-127485,-213079,-107227,25922,240140\n\nfrom,to,ia_re,ia_im,ib_re,ib_im,ic_re,ic_im,loss_p,loss_q\nN1,N2,114755,-55278,-131038,-99413,16283,154690,710520776,1617683311\nN2,N3R,146131,-294054,-450118,-6841,230733,509692,1795686313,10774124863\nN3R,N3,137911,-277513,-419172,-6371,213428,471465,0,0\nN3,N4,137911,-277513,-419172,-6371,213428,471465,7355513838,17029537434\n\nsweeps,source_p,source_q,drawn_p,drawn_q,lost_p,lost_q\n7,282361046670,151550875174,272499913157,122128981963,9861720927,29421345608\n\nto,tap_a,tap_b,tap_c\nN3,9,11,12\n"; sweeps = 7 })
unfolding opened
v5-00035 = refl

-- S-5, 00038-limit-p4--1
v5-00038 : study_of (bytes "source,va_re,va_im,vb_re,vb_im,vc_re,vc_im,tol,sweeps\nS,720000,0,-360000,-623538,-360000,623538,1,20\n\nfrom,to,phases,kind,p1,p2,p3,p4,p5,p6,p7,p8,p9,p10,p11,p12\nS,N1,A,R,0,0,0,-1,200,60,100,0,0,0,0,0\n\nnode,phase,kind,vn,p,q\n") 1000000 ≡ Err (OutOfLimit 5)
unfolding opened
v5-00038 = refl

-- S-5, 00046-limit-p4-20001
v5-00046 : study_of (bytes "source,va_re,va_im,vb_re,vb_im,vc_re,vc_im,tol,sweeps\nS,720000,0,-360000,-623538,-360000,623538,1,20\n\nfrom,to,phases,kind,p1,p2,p3,p4,p5,p6,p7,p8,p9,p10,p11,p12\nS,N1,A,R,0,0,0,20001,200,60,100,0,0,0,0,0\n\nnode,phase,kind,vn,p,q\n") 1000000 ≡ Err (OutOfLimit 5)
unfolding opened
v5-00046 = refl

-- S-5, 00055-limit-p6-0
v5-00055 : study_of (bytes "source,va_re,va_im,vb_re,vb_im,vc_re,vc_im,tol,sweeps\nS,720000,0,-360000,-623538,-360000,623538,1,20\n\nfrom,to,phases,kind,p1,p2,p3,p4,p5,p6,p7,p8,p9,p10,p11,p12\nS,N1,A,R,0,0,0,12000,200,0,100,0,0,0,0,0\n\nnode,phase,kind,vn,p,q\n") 1000000 ≡ Err (OutOfLimit 5)
unfolding opened
v5-00055 = refl

-- S-5, 00078-limit-p8-100000001
v5-00078 : study_of (bytes "source,va_re,va_im,vb_re,vb_im,vc_re,vc_im,tol,sweeps\nS,720000,0,-360000,-623538,-360000,623538,1,20\n\nfrom,to,phases,kind,p1,p2,p3,p4,p5,p6,p7,p8,p9,p10,p11,p12\nS,N1,A,R,0,0,0,12000,200,60,100,100000001,0,0,0,0\n\nnode,phase,kind,vn,p,q\n") 1000000 ≡ Err (OutOfLimit 5)
unfolding opened
v5-00078 = refl

-- S-5, 00146-absent-tap-17-level0
v5-00146 : study_of (bytes "source,va_re,va_im,vb_re,vb_im,vc_re,vc_im,tol,sweeps\nS,720000,0,-360000,-623538,-360000,623538,1,20\n\nfrom,to,phases,kind,p1,p2,p3,p4,p5,p6,p7,p8,p9,p10,p11,p12\nS,N1,A,R,0,17,0,0,0,0,0,0,0,0,0,0\n\nnode,phase,kind,vn,p,q\n") 1000000 ≡ Err (OutOfLimit 5)
unfolding opened
v5-00146 = refl

-- S-5, 00039-limit-p4-0
v5-00039 : study_of (bytes "source,va_re,va_im,vb_re,vb_im,vc_re,vc_im,tol,sweeps\nS,720000,0,-360000,-623538,-360000,623538,1,20\n\nfrom,to,phases,kind,p1,p2,p3,p4,p5,p6,p7,p8,p9,p10,p11,p12\nS,N1,A,R,0,0,0,0,200,60,100,0,0,0,0,0\n\nnode,phase,kind,vn,p,q\n") 1000000 ≡ Err (NotZero 5)
unfolding opened
v5-00039 = refl

-- S-5, 00088-limit-p10-1
v5-00088 : study_of (bytes "source,va_re,va_im,vb_re,vb_im,vc_re,vc_im,tol,sweeps\nS,720000,0,-360000,-623538,-360000,623538,1,20\n\nfrom,to,phases,kind,p1,p2,p3,p4,p5,p6,p7,p8,p9,p10,p11,p12\nS,N1,A,R,0,0,0,12000,200,60,100,0,0,1,0,0\n\nnode,phase,kind,vn,p,q\n") 1000000 ≡ Err (NotZero 5)
unfolding opened
v5-00088 = refl

-- S-5, 00106-level0-p5-20001
v5-00106 : study_of (bytes "source,va_re,va_im,vb_re,vb_im,vc_re,vc_im,tol,sweeps\nS,720000,0,-360000,-623538,-360000,623538,1,20\n\nfrom,to,phases,kind,p1,p2,p3,p4,p5,p6,p7,p8,p9,p10,p11,p12\nS,N1,A,R,0,0,0,0,20001,0,0,0,0,0,0,0\n\nnode,phase,kind,vn,p,q\n") 1000000 ≡ Err (NotZero 5)
unfolding opened
v5-00106 = refl

-- S-5, 00147-absent-tap-level12000
v5-00147 : study_of (bytes "source,va_re,va_im,vb_re,vb_im,vc_re,vc_im,tol,sweeps\nS,720000,0,-360000,-623538,-360000,623538,1,20\n\nfrom,to,phases,kind,p1,p2,p3,p4,p5,p6,p7,p8,p9,p10,p11,p12\nS,N1,A,R,0,1,0,12000,0,1,1,0,0,0,0,0\n\nnode,phase,kind,vn,p,q\n") 1000000 ≡ Err (NotZero 5)
unfolding opened
v5-00147 = refl

-- S-5, 00144-level0-24-after-23
v5-00144 : study_of (bytes "source,va_re,va_im,vb_re,vb_im,vc_re,vc_im,tol,sweeps\nS,720000,0,-360000,-623538,-360000,623538,1,20\n\nfrom,to,phases,kind,p1,p2,p3,p4,p5,p6,p7,p8,p9,p10,p11,p12\nS,N1,A,R,0,0,0,0,5,0,0,0,0,0,0,0\n\nnode,phase,kind,vn,p,q\nN1,B,P,5,1,0\n") 1000000 ≡ Err (PhaseAbsent 8)
unfolding opened
v5-00144 = refl
