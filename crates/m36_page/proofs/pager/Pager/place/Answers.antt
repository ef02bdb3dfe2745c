use Rattle.std.proofs.Common.{◌+◌, ◌*◌, ◌/◌, ◌%◌, refl, ◌∙◌, arith}
use Rattle.std.specs.Prelude.{slice_set}
use Rattle.m36_page.proofs.Parts.{settled_by, frame_told, frame_here}
use Rattle.m36_page.proofs.SetWords.{set_in_frame}
use Rattle.m36_page.proofs.pager.Pager.place.Goals as goal

pub overflow_mul-result : goal.overflow_mul-result
overflow_mul-result c =
    let room = frame_here c.args.self.now c.args.core.now c.args.seg (c.args.word / 1024) c.spot.result c.in-Some.frame c.frame_at.result
    c.spot.ensures.pager c.requires.reads c.requires.frames c.len.ensures.most c.requires.page c.spot.ensures.value c.frame_at.ensures c.in-Some.is in
    let most = c.len.ensures.most in
    omega (arith, room, most)

pub overflow_add-result : goal.overflow_add-result
overflow_add-result c =
    let room = frame_here c.args.self.now c.args.core.now c.args.seg (c.args.word / 1024) c.spot.result c.in-Some.frame c.frame_at.result
    c.spot.ensures.pager c.requires.reads c.requires.frames c.len.ensures.most c.requires.page c.spot.ensures.value c.frame_at.ensures c.in-Some.is in
    let most = c.len.ensures.most in
    omega (arith, room, most)

pub returns-in-Some-clause-inside : goal.returns-in-Some-clause-inside
returns-in-Some-clause-inside c =
    let room = frame_here c.args.self.now c.args.core.now c.args.seg (c.args.word / 1024) c.spot.result c.in-Some.frame c.frame_at.result
    c.spot.ensures.pager c.requires.reads c.requires.frames c.len.ensures.most c.requires.page c.spot.ensures.value c.frame_at.ensures c.in-Some.is in
    omega (arith, room)

pub returns-in-Some-clause-set : goal.returns-in-Some-clause-set
returns-in-Some-clause-set c v =
    (set_in_frame c.args.self.now c.args.core.now (slice_set c.args.core.now (1024 * c.in-Some.frame + c.args.word % 1024) v) c.args.seg c.args.word c.in-Some.frame v (settled_by c.args.self.now c.args.core.now c.spot.ensures.pager c.requires.reads c.requires.frames c.len.ensures.most) c.requires.page
    (frame_told c.args.self.now c.args.core.now c.args.seg (c.args.word / 1024) c.spot.result c.frame_at.result c.spot.ensures.value c.frame_at.ensures ∙ c.in-Some.is) refl).0

pub returns-in-Some-clause-reads : goal.returns-in-Some-clause-reads
returns-in-Some-clause-reads c v =
    (set_in_frame c.args.self.now c.args.core.now (slice_set c.args.core.now (1024 * c.in-Some.frame + c.args.word % 1024) v) c.args.seg c.args.word c.in-Some.frame v (settled_by c.args.self.now c.args.core.now c.spot.ensures.pager c.requires.reads c.requires.frames c.len.ensures.most) c.requires.page
    (frame_told c.args.self.now c.args.core.now c.args.seg (c.args.word / 1024) c.spot.result c.frame_at.result c.spot.ensures.value c.frame_at.ensures ∙ c.in-Some.is) refl).1

pub returns-in-None-clause-away : goal.returns-in-None-clause-away
returns-in-None-clause-away c =
    frame_told c.args.self.now c.args.core.now c.args.seg (c.args.word / 1024) c.spot.result c.frame_at.result c.spot.ensures.value c.frame_at.ensures ∙ c.in-None.is
