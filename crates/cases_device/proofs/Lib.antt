mod Checkable
