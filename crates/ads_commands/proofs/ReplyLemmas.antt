-- What a reply that is read, or refused, says of its payload; and a reply that is written in parts.
use Rattle.std.proofs.Common.{◌≡◌, ◌≢◌, ℕ, List, ◌++◌, Option, Some, None, IsNone, refl, sym, ap, ◌∙◌}
use Rattle.std.specs.Prelude.{◌↔◌, IfSome, option_map, replicate}
use Rattle.std.specs.Int.{w32, to_le_bytes}
use Rattle.ads_commands.specs.declared.reply.Reply.{Reply}
use Rattle.spec_formats.specs.Numbers.{AreBytes}
use Rattle.spec_formats.specs.Reply as reply
use Rattle.spec_formats.proofs.ReplyLemmas.{reply_of-of_text, text_of-reply_of, written_bytes-done, written_bytes-refused}
use Rattle.ads_commands.specs.Reply.{IsNoReply, reply_meant}
use Rattle.spec_formats.proofs.Appends.{two_parts}

pub text_read : (o : Option Reply) (command : ℕ) (p : List ℕ) → AreBytes p → option_map reply_meant o ≡ reply.reply_of command p
    → IfSome o (λ r. reply.IsReplyPayload command p (reply_meant r))
text_read None command p h e = tt
text_read (Some r) command p h e = text_of-reply_of command p (reply_meant r) h (sym e)

pub none_read : (o : Option Reply) (command : ℕ) (p : List ℕ) → AreBytes p → option_map reply_meant o ≡ reply.reply_of command p
    → IsNone o ↔ IsNoReply command p
none_read None command p h e = (λ none. λ r text. absurd (cc (e, reply_of-of_text command p r text)), λ none. refl)
none_read (Some r) command p h e =
    (λ some. absurd cc, λ none. absurd (none (reply_meant r) (text_of-reply_of command p (reply_meant r) h (sym e))))

pub done_parts : (r : reply.Reply) (old first second : List ℕ) (result : ℕ) → result ≡ reply.result_of r → result ≡ 0
    → first ≡ old ++ to_le_bytes w32 result → second ≡ first ++ reply.reply_fields r → second ≡ old ++ reply.written_bytes r
done_parts r old first second result is zero e f =
    two_parts old (to_le_bytes w32 (reply.result_of r)) (reply.reply_fields r) first second
    (e ∙ ap (λ (n : ℕ). old ++ to_le_bytes w32 n) is) f
    ∙ ap (λ (l : List ℕ). old ++ l) (sym (written_bytes-done r (sym is ∙ zero)))

pub refused_parts : (r : reply.Reply) (old first second : List ℕ) (result len : ℕ) → result ≡ reply.result_of r → result ≢ 0
    → len ≡ reply.refused_len r → first ≡ old ++ to_le_bytes w32 result → second ≡ first ++ replicate len 0
    → second ≡ old ++ reply.written_bytes r
refused_parts r old first second result len is other z e f =
    two_parts old (to_le_bytes w32 (reply.result_of r)) (replicate (reply.refused_len r) 0) first second
    (e ∙ ap (λ (n : ℕ). old ++ to_le_bytes w32 n) is) (f ∙ ap (λ (n : ℕ). first ++ replicate n 0) z)
    ∙ ap (λ (l : List ℕ). old ++ l) (sym (written_bytes-refused r (λ zero. other (is ∙ zero))))
