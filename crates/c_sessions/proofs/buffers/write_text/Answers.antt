use Rattle.std.proofs.Common.{◌≡◌, ◌∙◌, ◌++◌, ℕ, List, length, take, drop, slice_set, sym, ap, arith}
use Rattle.std.proofs.lemmas.List.{append-nil, drop_all, take_all}
use Rattle.c_sessions.proofs.Padding.{text_cut, text_ended}
use Rattle.c_sessions.proofs.buffers.write_text.Goals as goal

pub returns-then-end-buffer : goal.returns-then-end-buffer
returns-then-end-buffer c =
    let text = c.args.text.now in let buffer = c.args.buffer.now in let end = c.min-end.result in let least = c.min-end.ensures in
    let whole : end ≡ length text = omega (arith, least, c.if-end-buffer.true) in
    ap (λ (l : List ℕ). slice_set (l ++ drop end buffer) end 0) (c.copy_from_slice.ensures.after ∙ take_all end text (omega (arith, whole)))
    ∙ ap (λ (n : ℕ). slice_set (text ++ drop n buffer) n 0) whole
    ∙ sym (text_ended buffer text (omega (arith, whole, c.if-end-buffer.true)))

pub returns-else-end-buffer : goal.returns-else-end-buffer
returns-else-end-buffer c =
    let text = c.args.text.now in let buffer = c.args.buffer.now in let end = c.min-end.result in let least = c.min-end.ensures in
    let full : end ≡ length buffer = omega (arith, least, c.if-end-buffer.false) in
    ap (λ (l : List ℕ). c.copy_from_slice.new.self ++ l) (drop_all end buffer (omega (arith, full)))
    ∙ append-nil c.copy_from_slice.new.self
    ∙ c.copy_from_slice.ensures.after
    ∙ ap (λ (n : ℕ). take n text) full
    ∙ sym (text_cut buffer text (omega (arith, least, full)))
