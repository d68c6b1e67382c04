use Rattle.table_text.proofs.MemberLemmas.{set_member-insert}
use Rattle.table_text.proofs.member.set_member.Goals as goal

pub returns-in-Ok : goal.returns-in-Ok
returns-in-Ok c = set_member-insert _ _ _ _ _ c.in_ok-key.ensures.ok c.in-Ok.ensures.entries
