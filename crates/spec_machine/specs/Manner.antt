-- Two servers over one machine: the strict one answers each request as it is written; the wide one takes requests of
-- TwinCAT's clients for what they mean. This project's own choice.

pub data Manner : Type 0 where
  Strict : Manner
  Wide : Manner
