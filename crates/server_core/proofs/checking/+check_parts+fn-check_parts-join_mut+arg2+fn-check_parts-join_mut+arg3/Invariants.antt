use Rattle.server_core.proofs.checking.+check_parts+fn-check_parts-join_mut+arg2+fn-check_parts-join_mut+arg3.Given as goal

abbrev pub decreases-check_parts : goal.decreases-check_parts
decreases-check_parts g l = l.levels

abbrev pub decreases-join_mut+arg2 : goal.decreases-join_mut+arg2
decreases-join_mut+arg2 g l = l.less

abbrev pub decreases-join_mut+arg3 : goal.decreases-join_mut+arg3
decreases-join_mut+arg3 g l = l.less
