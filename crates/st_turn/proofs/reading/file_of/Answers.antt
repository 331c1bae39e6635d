use Rattle.st_turn.proofs.reading.file_of.Goals as goal

pub returns-in-Block : goal.returns-in-Block
returns-in-Block g c =
    let e = c.block_of.ensures in
    rw c.in-Block.is (record { stays = record { keeps = e.keeps; state = e.state; shelf = e.id }; content_is = e.content; lent = e.lent; cause = e.cause })

pub returns-in-Index : goal.returns-in-Index
returns-in-Index g c =
    let e = c.index_of.ensures in
    rw c.in-Index.is (record { stays = record { keeps = e.keeps; state = e.state; shelf = e.id }; content_is = e.content; lent = e.lent; cause = e.cause })
