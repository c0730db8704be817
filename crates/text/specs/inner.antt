-- For the contracts of inner functions: what the code keeps. Of the public statements only that of `Decimal::spell` cites it, whose answer no
-- caller can open.
-- Assumes nothing.
pub mod Spelled
