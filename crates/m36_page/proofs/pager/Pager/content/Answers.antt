use Rattle.std.proofs.Common.{◌+◌, ◌*◌, ◌/◌, ◌%◌, Some, sym, ap, ◌∙◌, arith}
use Rattle.m36_page.proofs.Parts.{frame_told, frame_here, content_none, content_some, content_kept}
use Rattle.m36_page.proofs.pager.Pager.content.Goals as goal

pub returns-then-not-has : goal.returns-then-not-has
returns-then-not-has c =
    sym (content_none c.args.self.now c.args.core.now c.args.seg c.args.word (sym c.has.ensures ∙ c.if-not-has.true))

pub peek-requires : goal.peek-requires
peek-requires c =
    let room = frame_here c.args.self.now c.args.core.now c.args.seg (c.args.word / 1024) c.spot.result c.in-Some.frame c.frame_at.result
    c.spot.ensures.pager c.requires.reads c.requires.frames c.len.ensures.most (sym c.has.ensures ∙ c.if-not-has.false) c.spot.ensures.value c.frame_at.ensures c.in-Some.is in
    omega (arith, room)

pub overflow_mul-frame : goal.overflow_mul-frame
overflow_mul-frame c =
    let room = frame_here c.args.self.now c.args.core.now c.args.seg (c.args.word / 1024) c.spot.result c.in-Some.frame c.frame_at.result
    c.spot.ensures.pager c.requires.reads c.requires.frames c.len.ensures.most (sym c.has.ensures ∙ c.if-not-has.false) c.spot.ensures.value c.frame_at.ensures c.in-Some.is in
    let most = c.len.ensures.most in
    omega (arith, room, most)

pub overflow_add-frame : goal.overflow_add-frame
overflow_add-frame c =
    let room = frame_here c.args.self.now c.args.core.now c.args.seg (c.args.word / 1024) c.spot.result c.in-Some.frame c.frame_at.result
    c.spot.ensures.pager c.requires.reads c.requires.frames c.len.ensures.most (sym c.has.ensures ∙ c.if-not-has.false) c.spot.ensures.value c.frame_at.ensures c.in-Some.is in
    let most = c.len.ensures.most in
    omega (arith, room, most)

pub returns-in-Some : goal.returns-in-Some
returns-in-Some c =
    ap (λ v. Some v) c.peek.ensures
    ∙ sym (content_some c.args.self.now c.args.core.now c.args.seg c.args.word c.in-Some.frame (sym c.has.ensures ∙ c.if-not-has.false)
    (frame_told c.args.self.now c.args.core.now c.args.seg (c.args.word / 1024) c.spot.result c.frame_at.result c.spot.ensures.value c.frame_at.ensures ∙ c.in-Some.is))

pub returns-in-None : goal.returns-in-None
returns-in-None c =
    ap (λ v. Some v) c.kept_word_of.ensures
    ∙ sym (content_kept c.args.self.now c.args.core.now c.args.seg c.args.word (sym c.has.ensures ∙ c.if-not-has.false)
    (frame_told c.args.self.now c.args.core.now c.args.seg (c.args.word / 1024) c.spot.result c.frame_at.result c.spot.ensures.value c.frame_at.ensures ∙ c.in-None.is))
