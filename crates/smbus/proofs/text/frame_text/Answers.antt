use Rattle.std.proofs.Common.{◌++◌, ap, ◌∙◌, string_bytes}
use Rattle.smbus.specs.Text.{segments_words, tail_words, spaced}
use Rattle.smbus.proofs.FrameWords.{text_of-pieces}
use Rattle.smbus.proofs.text.frame_text.Goals as goal

pub returns : goal.returns
returns c =
    text_of-pieces c.args.frame.now (string_bytes c.in_ok-text.text)
    (string_bytes c.push_segments.new.text) (string_bytes c.push_tail.new.text)
    (string_bytes c.push_str.new.self)
    c.in_ok-text.ensures.ok
    (c.in_ok-push_segments.ensures ∙ ap (λ l. string_bytes c.in_ok-text.text
    ++ spaced (segments_words l)) (c.deref.ensures.value ∙ ap (λ f. f.segments) c.frame.view_is))
    (c.in_ok-push_tail.ensures ∙ ap (λ l. string_bytes c.push_segments.new.text
    ++ spaced (tail_words l)) (c.deref-2.ensures.value ∙ ap (λ f. f.tail) c.frame.view_is))
    c.in_ok-push_str.ensures.bytes
