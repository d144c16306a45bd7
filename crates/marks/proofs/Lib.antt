-- Laws of marks: Masks that mark each kind of byte.
mod Masks
