use Rattle.td_cli_host.proofs.Answered.{served_are_reportable}
use Rattle.td_cli_host.proofs.laws.served_are_reportable.Goals as goal

pub returns : goal.returns
returns c =
    served_are_reportable
    (record {
      replies = record {
        checked = c.modules_are_checked.ensures;
        sized = c.host_jobs_are_sized.ensures;
        words = c.modules_have_words.ensures;
        told = c.replies_are_reportable.ensures;
        carry = c.some_message_carries.ensures;
      };
      takes = record { told = c.outcomes_are_reportable.ensures; fits = c.shape_fits.ensures; within = c.shape_lies_within.ensures; none = c.shape_has_no_buffers.ensures };
    })
