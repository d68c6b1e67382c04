-- What is written is read again.
use Rattle.std.proofs.Common.{◌≡◌, ◌≢◌, ℕ, ◌<◌, ◌^◌, Bool, cond, Some, refl, sym, ap, subst, ◌∙◌, lit<, inl, inr}
use Rattle.std.specs.Prelude.{replicate}
use Rattle.std.proofs.lemmas.List.{length-replicate}
use Rattle.std.proofs.lemmas.Bool.Decides.{eqb_tells}
use Rattle.spec_formats.specs.Request as request
use Rattle.spec_formats.specs.Reply as reply
use Rattle.spec_formats.proofs.RequestLemmas.{request_of-of_text}
use Rattle.spec_formats.proofs.ReplyLemmas.{reply_of-of_text, written_bytes-done, written_bytes-refused}
use Rattle.ads_commands.specs.Laws.{RequestsComeBack, RepliesComeBack, refusal_of}

pub requests : RequestsComeBack
requests r fits = request_of-of_text (request.command_of r) (request.request_bytes r) r (record {
  command_is = refl;
  fits = fits;
  reserved = replicate (request.reserved_len (request.command_of r)) 0;
  reserved_fills = length-replicate (request.reserved_len (request.command_of r)) 0;
  whole = refl;
})

-- the refused form is the text of the refusal
refused_text : (r : reply.Reply) → reply.refused_bytes r ≡ reply.reply_bytes (refusal_of r)
refused_text (reply.ReadDeviceInfo result facts) = refl
refused_text (reply.Read result bytes) = refl
refused_text (reply.Write result) = refl
refused_text (reply.ReadState result ads device) = refl
refused_text (reply.WriteControl result) = refl
refused_text (reply.AddDeviceNotification result handle) = refl
refused_text (reply.DeleteDeviceNotification result) = refl
refused_text (reply.ReadWrite result bytes) = refl

-- a refusal keeps command and result, and its fields fit
record Keeps (r : reply.Reply) : Type 0 where
  command : reply.command_of (refusal_of r) ≡ reply.command_of r
  result : reply.result_of (refusal_of r) ≡ reply.result_of r
  fits : reply.FitsFields (refusal_of r)

keeps : (r : reply.Reply) → Keeps r
keeps (reply.ReadDeviceInfo result facts) = record { command = refl; result = refl; fits = (lit< tt, lit< tt, lit< tt, refl) }
keeps (reply.Read result bytes) = record { command = refl; result = refl; fits = lit< tt }
keeps (reply.Write result) = record { command = refl; result = refl; fits = tt }
keeps (reply.ReadState result ads device) = record { command = refl; result = refl; fits = (lit< tt, lit< tt) }
keeps (reply.WriteControl result) = record { command = refl; result = refl; fits = tt }
keeps (reply.AddDeviceNotification result handle) = record { command = refl; result = refl; fits = lit< tt }
keeps (reply.DeleteDeviceNotification result) = record { command = refl; result = refl; fits = tt }
keeps (reply.ReadWrite result bytes) = record { command = refl; result = refl; fits = lit< tt }

as_it_was : (r : reply.Reply) → reply.result_of r ≡ 0 → reply.result_of r < 2 ^ 32 → reply.FitsFields r
    → reply.reply_of (reply.command_of r) (reply.written_bytes r) ≡ Some r
as_it_was r zero lt fits = reply_of-of_text (reply.command_of r) (reply.written_bytes r) r (record {
  command_is = refl;
  result_fits = lt;
  fields_fit = fits;
  whole = written_bytes-done r zero;
})

as_refused : (r : reply.Reply) → reply.result_of r ≢ 0 → reply.result_of r < 2 ^ 32
    → reply.reply_of (reply.command_of r) (reply.written_bytes r) ≡ Some (refusal_of r)
as_refused r other lt =
    let k = keeps r in
    reply_of-of_text (reply.command_of r) (reply.written_bytes r) (refusal_of r) (record {
      command_is = k.command;
      result_fits = subst (λ (n : ℕ). n < 2 ^ 32) (sym k.result) lt;
      fields_fit = k.fits;
      whole = written_bytes-refused r other ∙ refused_text r;
    })

pub replies : RepliesComeBack
replies r lt fits = elim (eqb_tells (reply.result_of r) 0) [
  | inl same ↦ as_it_was r same.1 lt fits ∙ ap (λ (b : Bool). Some (cond b r (refusal_of r))) (sym same.0)
  | inr other ↦ as_refused r other.1 lt ∙ ap (λ (b : Bool). Some (cond b r (refusal_of r))) (sym other.0)
]
