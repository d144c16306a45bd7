-- Laws of the open blocks: the stack of blocks and its bytes (Stack), and the parts that one way takes together (Parts).
pub mod Stack
pub mod Parts
