-- Laws of the answer, which the functions of `laws` ensure.
use Rattle.std.specs.Prelude.{◌≡◌, ℕ, List}
use Rattle.st_base.specs.Records.{Rec}
use Rattle.st_disk.specs.Pairs.{Entry}
use Rattle.st_query.specs.declared.nodes.Node.{Node}
use Rattle.st_answer.specs.Packets.{Packet}
use Rattle.st_answer.specs.Answer.{IsAnswer}
use Rattle.st_answer.specs.Replies.{Question, IsReply}

-- a file set has at most one answer to a query at one time of the clock
abbrev pub OneAnswer : Type 0
OneAnswer =
    (q : Node) (now : ℕ) (set : List Entry) (ps qs : List Packet)
    → IsAnswer q now set ps → IsAnswer q now set qs → ps ≡ qs

-- a file set has at most one reply to a question
abbrev pub OneReply : Type 0
OneReply =
    (q : Question) (set : List Entry) (rs qs : List Rec)
    → IsReply q set rs → IsReply q set qs → rs ≡ qs
